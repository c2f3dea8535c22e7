-- What the answer of a whole check says of the walk.
use Rattle.std.proofs.Common.{◌≡◌, ◌<◌, ◌≤◌, ℕ, ◌+◌, Bool, true, false, cond, List, [], ◌∷◌, refl, sym, ap, subst, arith, ◌∙◌, Option, Some}
use Rattle.certificate_walks.specs.Walks.{WalkEnd, Left, Fault, Halt, Rules, go_on, finish}
use Rattle.certificate_walks.specs.Follows.{held, Sight, Meets}
use Rattle.certificate_walks.specs.Items.{ToldItems, IsAtEnd, Supply, is_none_left}
use Rattle.certificate_walks.specs.Answers.{Answers, CountsBad, CountsUnread, StopsUnread, Faults, ended, ending, looked}
use Rattle.certificate_walks.specs.Parts.{ending_of}
use Rattle.certificate_walks.specs.Taking.{Taking, moment_of, of_walk, stop_ending}
use Rattle.certificate_walks.proofs.ItemLaws.{answers-as, bad-as, unread-as, meets-is}
use Rattle.certificate_walks.specs.Ends.{ChecksItems, EndsItems, EndsUnread, IsLastLook, IsWhole}
use Rattle.certificate_walks.specs.declared.walk_answers.Halt.{Halt as AnyHalt}
use Rattle.certificate_walks.specs.declared.walk_answers.Halt.TheVariants.{Bad, Failed, Full}
use Rattle.certificate_walks.specs.declared.walk_answers.Stop.{Stop}
use Rattle.certificate_walks.specs.declared.walk_answers.WalkAnswer.{WalkAnswer}
use Rattle.certificate_walks.specs.declared.walk_answers.WalkAnswer.TheVariants.{Done, Refuses, Halts}
use Rattle.certificate_walks.specs.declared.walk_answers.Checked.{Checked}
use Rattle.certificate_walks.specs.declared.walk_answers.Checked.TheVariants.{Accepted, Refused, Halted}
use Rattle.certificate_walks.specs.declared.walker.Walked.{Walked}

-- ---- what is left over

none-is : {T : Type 0} (told : ToldItems T) (items : List (Option T)) → told ≡ Some items → IsAtEnd told → is_none_left items ≡ true
none-is told items e at_end = let empty : items ≡ [] = subst IsAtEnd e at_end in ap is_none_left empty

some-is : {T : Type 0} (told : ToldItems T) (items : List (Option T)) → told ≡ Some items → (told ≡ Some [] → ⊥) → is_none_left items ≡ false
some-is told [] e more = absurd (more e)
some-is told (x ∷ items) e more = refl

-- ---- what is answered

-- the view determines the items that are left, and how many were taken
pub record Tells {S W N T : Type 0} (R : Rules S W) (V : Sight S W N) (told : ToldItems T) (taken : ℕ) (n : N) : Type 0 where
  pub items : S → List (Option T)
  pub left : (s : S) → n ≡ V.view s → told ≡ Some (items s)
  pub count : (s : S) → n ≡ V.view s → taken ≡ held (R.taken s)
  pub place : V.place n ≡ taken
  pub ends : (s : S) → R.at_end s ≡ is_none_left (items s)

module _ {S W N T : Type 0} (R : Rules S W) (V : Sight S W N) (told : ToldItems T) (taken : ℕ) (n : N) (tells : Tells R V told taken n) where
  finishes : (s : S) (b : Bool) → R.at_end s ≡ b → finish R s ≡ cond b (Left s) (Fault R.reasons.rest (R.taken s))
  finishes s b e = ap (λ (x : Bool). cond x (Left s) (Fault R.reasons.rest (R.taken s))) e

  pub ends-left : (o : WalkEnd S W) (s : S) → o ≡ Left s → n ≡ V.view s → IsAtEnd told → go_on o (finish R) ≡ Left s
  ends-left o s left seen at_end = ap (λ (x : WalkEnd S W). go_on x (finish R)) left ∙ finishes s true (tells.ends s ∙ none-is told (tells.items s) (tells.left s seen) at_end)

  last-look : (rest : W) (answer : Checked W) (o : WalkEnd S W) (s : S) → R.reasons.rest ≡ rest → o ≡ Left s → n ≡ V.view s → IsLastLook rest taken told answer → Answers (go_on o (finish R)) answer
  last-look rest Accepted o s is left seen look = (s, ends-left o s left seen look)
  last-look rest (Refused place why) o s is left seen look = (
    R.taken s,
    ap (λ (x : WalkEnd S W). go_on x (finish R)) left ∙ finishes s false (tells.ends s ∙ some-is told (tells.items s) (tells.left s seen) look.2) ∙ ap (λ (w : W). Fault w (R.taken s)) (is ∙ sym look.1),
    look.0 ∙ tells.count s seen,
  )
  last-look rest (Halted Bad) o s is left seen look = absurd look
  last-look rest (Halted Failed) o s is left seen look = tt
  last-look rest (Halted Full) o s is left seen look = tt

  pub whole-answers : (rest : W) (walked : WalkAnswer W) (answer : Checked W) (o : WalkEnd S W) → R.reasons.rest ≡ rest → Meets V o (ending walked) n → IsWhole rest walked taken told answer → Answers (go_on o (finish R)) answer
  whole-answers rest Done answer o is m whole = last-look rest answer o m.0 is m.1 m.2 whole
  whole-answers rest (Refuses why) answer o is m whole =
      subst (λ (x : Checked W). Answers (go_on o (finish R)) x) (sym whole) (m.0, ap (λ (x : WalkEnd S W). go_on x (finish R)) m.1, sym tells.place ∙ m.2)
  whole-answers rest (Halts Bad) answer o is m whole = subst (λ (x : Checked W). Answers (go_on o (finish R)) x) (sym whole) (m.0, ap (λ (x : WalkEnd S W). go_on x (finish R)) m.1)
  whole-answers rest (Halts Failed) answer o is m whole = subst (λ (x : Checked W). Answers (go_on o (finish R)) x) (sym whole) tt
  whole-answers rest (Halts Full) answer o is m whole = subst (λ (x : Checked W). Answers (go_on o (finish R)) x) (sym whole) tt

  look-counts : (rest : W) (answer : Checked W) (o : WalkEnd S W) (count : ℕ) → IsLastLook rest taken told answer → CountsBad (go_on o (finish R)) answer count
  look-counts rest Accepted o count look = tt
  look-counts rest (Refused place why) o count look = tt
  look-counts rest (Halted Bad) o count look = absurd look
  look-counts rest (Halted Failed) o count look = tt
  look-counts rest (Halted Full) o count look = tt

  pub whole-counts : (rest : W) (walked : WalkAnswer W) (answer : Checked W) (o : WalkEnd S W) (before after : ℕ) → Meets V o (ending walked) n → IsWhole rest walked taken told answer → before ≡ ended walked taken → (answer ≡ Halted Bad → after ≡ before) →
      CountsBad (go_on o (finish R)) answer after
  whole-counts rest Done answer o before after m whole count same = look-counts rest answer o after whole
  whole-counts rest (Refuses why) answer o before after m whole count same = subst (λ (x : Checked W). CountsBad (go_on o (finish R)) x after) (sym whole) tt
  whole-counts rest (Halts Bad) answer o before after m whole count same =
      let stands : after ≡ before = same whole in
      let place : taken ≡ held m.0 = sym tells.place ∙ m.2 in
      let is : after ≡ held (m.0 + 1) = omega (arith, stands, count, place) in
      subst (λ (x : Checked W). CountsBad (go_on o (finish R)) x after) (sym whole) (m.0, ap (λ (x : WalkEnd S W). go_on x (finish R)) m.1, is)
  whole-counts rest (Halts Failed) answer o before after m whole count same = subst (λ (x : Checked W). CountsBad (go_on o (finish R)) x after) (sym whole) tt
  whole-counts rest (Halts Full) answer o before after m whole count same = subst (λ (x : Checked W). CountsBad (go_on o (finish R)) x after) (sym whole) tt

  -- ---- if the items could not be read on

  module _ (kinds : Faults W) (looks : (o : WalkEnd S W) → V.unread o n → taken < looked kinds R.taken o) (one : kinds.looked_for R.reasons.rest ≡ 1) where
    finish-by : (s : S) (count : ℕ) (b : Bool) → R.at_end s ≡ b → count ≤ R.taken s → CountsUnread kinds (finish R s) count
    finish-by s count true e low = subst (λ (x : WalkEnd S W). CountsUnread kinds x count) (sym (finishes s true e)) tt
    finish-by s count false e low = let more : count < R.taken s + kinds.looked_for R.reasons.rest = omega (arith, low, one) in subst (λ (x : WalkEnd S W). CountsUnread kinds x count) (sym (finishes s false e)) more

    stops-unread : (o : WalkEnd S W) (count : ℕ) → count ≡ taken → V.unread o n → CountsUnread kinds (go_on o (finish R)) count
    stops-unread (Left s) count same h = let more : taken < R.taken s = looks (Left s) h in finish-by s count (R.at_end s) refl (omega (arith, same, more))
    stops-unread (Fault why k) count same h = subst (λ (j : ℕ). j < k + kinds.looked_for why) (sym same) (looks (Fault why k) h)
    stops-unread (Halt k) count same h = subst (λ (j : ℕ). j < k + 1) (sym same) (looks (Halt k) h)

    look-unread : (o : WalkEnd S W) (s : S) (count : ℕ) → o ≡ Left s → n ≡ V.view s → count ≡ taken → CountsUnread kinds (go_on o (finish R)) count
    look-unread o s count left seen same =
        let low : count ≤ R.taken s = omega (arith, same, tells.count s seen) in
        subst (λ (x : WalkEnd S W). CountsUnread kinds (go_on x (finish R)) count) (sym left) (finish-by s count (R.at_end s) refl low)

    done-unread : (answer : Checked W) (o : WalkEnd S W) (s : S) (count : ℕ) → o ≡ Left s → n ≡ V.view s → ((halt : AnyHalt) → answer ≡ Halted halt → count ≡ taken) → StopsUnread kinds (go_on o (finish R)) answer count
    done-unread Accepted o s count left seen same = tt
    done-unread (Refused place why) o s count left seen same = tt
    done-unread (Halted Bad) o s count left seen same = tt
    done-unread (Halted Failed) o s count left seen same = look-unread o s count left seen (same Failed refl)
    done-unread (Halted Full) o s count left seen same = look-unread o s count left seen (same Full refl)

    pub whole-unread : (rest : W) (walked : WalkAnswer W) (answer : Checked W) (o : WalkEnd S W) (before after : ℕ) → Meets V o (ending walked) n → IsWhole rest walked taken told answer → before ≡ ended walked taken →
        ((halt : AnyHalt) → answer ≡ Halted halt → after ≡ before) → StopsUnread kinds (go_on o (finish R)) answer after
    whole-unread rest Done answer o before after m whole count same = done-unread answer o m.0 after m.1 m.2 (λ halt e. same halt e ∙ count)
    whole-unread rest (Refuses why) answer o before after m whole count same = subst (λ (x : Checked W). StopsUnread kinds (go_on o (finish R)) x after) (sym whole) tt
    whole-unread rest (Halts Bad) answer o before after m whole count same = subst (λ (x : Checked W). StopsUnread kinds (go_on o (finish R)) x after) (sym whole) tt
    whole-unread rest (Halts Failed) answer o before after m whole count same = subst (λ (x : Checked W). StopsUnread kinds (go_on o (finish R)) x after) (sym whole) (stops-unread o after (same Failed whole ∙ count) m)
    whole-unread rest (Halts Full) answer o before after m whole count same = subst (λ (x : Checked W). StopsUnread kinds (go_on o (finish R)) x after) (sym whole) (stops-unread o after (same Full whole ∙ count) m)

    pub certificate-unread : (rest : W) (whole_walk o : WalkEnd S W) (w : Walked (Stop W)) (walked : WalkAnswer W) (seen : N) (answer : Checked W) (before after : ℕ) → whole_walk ≡ go_on o (finish R) → Meets V o (ending_of R stop_ending w) seen → seen ≡ n →
        walked ≡ of_walk R.reasons.leaf_fails R.reasons.bad_index w → IsWhole rest walked taken told answer → before ≡ ended walked taken → ((halt : AnyHalt) → answer ≡ Halted halt → after ≡ before) → StopsUnread kinds whole_walk answer after
    certificate-unread rest whole_walk o w walked seen answer before after e m same ends whole count stands =
        unread-as kinds whole_walk (go_on o (finish R)) answer after e
        (whole-unread rest walked answer o before after (subst (λ (x : N). Meets V o (ending walked) x) same (meets-is R V o w walked seen ends m)) whole count stands)

  -- the same for the walk of a whole certificate, as the code ends it
  pub certificate-answers : (rest : W) (whole_walk o : WalkEnd S W) (w : Walked (Stop W)) (walked : WalkAnswer W) (seen : N) (answer : Checked W) → R.reasons.rest ≡ rest → whole_walk ≡ go_on o (finish R) → Meets V o (ending_of R stop_ending w) seen → seen ≡ n →
      walked ≡ of_walk R.reasons.leaf_fails R.reasons.bad_index w → IsWhole rest walked taken told answer → Answers whole_walk answer
  certificate-answers rest whole_walk o w walked seen answer is e m same ends whole =
      answers-as whole_walk (go_on o (finish R)) answer e
      (whole-answers rest walked answer o is (subst (λ (x : N). Meets V o (ending walked) x) same (meets-is R V o w walked seen ends m)) whole)

  pub certificate-counts : (rest : W) (whole_walk o : WalkEnd S W) (w : Walked (Stop W)) (walked : WalkAnswer W) (seen : N) (answer : Checked W) (before after : ℕ) → whole_walk ≡ go_on o (finish R) → Meets V o (ending_of R stop_ending w) seen → seen ≡ n →
      walked ≡ of_walk R.reasons.leaf_fails R.reasons.bad_index w → IsWhole rest walked taken told answer → before ≡ ended walked taken → (answer ≡ Halted Bad → after ≡ before) → CountsBad whole_walk answer after
  certificate-counts rest whole_walk o w walked seen answer before after e m same ends whole count stands =
      bad-as whole_walk (go_on o (finish R)) answer after e
      (whole-counts rest walked answer o before after (subst (λ (x : N). Meets V o (ending walked) x) same (meets-is R V o w walked seen ends m)) whole count stands)

-- ---- what happened to the items

-- the walk takes items, none of which was taken before, and its end is that of the whole check
pub checks-items : {I S T W : Type 0} (supply : I → Supply T) (kinds : Faults W) (outcome : List (Option T) → WalkEnd S W) (walked : WalkAnswer W) (answer : Checked W) (first begun middle last : I) (names later : List ℕ) (none taken : ℕ) → begun ≡ first → none ≡ 0 →
    Taking kinds (Some walked) (moment_of names none (supply begun)) (moment_of later taken (supply middle)) → EndsItems kinds walked taken answer (supply middle) (supply last) →
    ((items : List (Option T)) → (supply first).left ≡ Some items → (supply middle).count ≡ ended walked taken → CountsBad (outcome items) answer (supply last).count) → ChecksItems kinds outcome (Some answer) (supply first) (supply last)
checks-items {I} supply kinds outcome walked answer first begun middle last names later none taken same zero part ends bad =
    let counts : (supply begun).count ≡ 0 → (supply middle).count ≡ ended walked taken = λ z. part.counted (z ∙ sym zero) in
    subst (λ (i : I). ChecksItems kinds outcome (Some answer) (supply i) (supply last)) same
    (record {
      bad = λ items e z. bad items (ap (λ (i : I). (supply i).left) (sym same) ∙ e) (counts z);
      refused = λ z. ends.refused (counts z);
      cause = ends.cause _ part.cause;
      lenders = ends.lenders ∙ part.lenders;
      known = λ input before k. ends.known input before (part.known input before k);
      met = ends.met part.met;
    })

-- the items taken did not decide it
pub ends-unread : {I S W T : Type 0} (supply : I → Supply T) (kinds : Faults W) (outcome : List (Option T) → WalkEnd S W) (walked : WalkAnswer W) (answer : Checked W) (first begun middle last : I) (names later : List ℕ) (none taken : ℕ) → begun ≡ first → none ≡ 0 →
    Taking kinds (Some walked) (moment_of names none (supply begun)) (moment_of later taken (supply middle)) →
    ((items : List (Option T)) → (supply first).left ≡ Some items → (supply middle).count ≡ ended walked taken → StopsUnread kinds (outcome items) answer (supply last).count) → EndsUnread kinds outcome answer (supply first) (supply last)
ends-unread {I} supply kinds outcome walked answer first begun middle last names later none taken same zero part unread =
    λ items e z. unread items e (part.counted (ap (λ (i : I). (supply i).count) same ∙ z ∙ sym zero))
