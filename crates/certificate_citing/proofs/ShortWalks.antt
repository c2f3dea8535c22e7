-- What the code of a walk that writes tokens finds at a node, and what its answers say.
use Rattle.std.proofs.Common.{◌≡◌, ℕ, zero, suc, ◌+◌, ◌<◌, Bool, true, false, List, [], ◌∷◌, ◌++◌, refl, sym, ap, subst, ◌∙◌, ℤ, neg_ℤ, Option, Some, None, arith}
use Rattle.std.specs.List.{slice_get}
use Rattle.std.specs.Bool.{OnFalse, OnTrue}
use Rattle.hive_model.specs.declared.places.Move.{Move}
use Rattle.hive_model.specs.Positions.{Position}
use Rattle.hive_model.specs.Games.{after as later}
use Rattle.hive_model.specs.Keys.{KeyParts, key}
use Rattle.hive_model.specs.Legal.{moves}
use Rattle.hive_model.specs.Minimax.{IsInner}
use Rattle.certificate_walks.specs.declared.limit.Limit.TheVariants.{AtLeast, AtMost}
use Rattle.certificate_walks.specs.declared.walker.Walked.{Walked}
use Rattle.certificate_walks.specs.declared.walker.Walked.TheVariants.{Done as AllDone, LeafFails as ALeafFails, BadIndex as ABadIndex, Stops}
use Rattle.certificate_walks.specs.declared.walker.Took.{Took}
use Rattle.certificate_walks.specs.declared.walk_answers.Halt.TheVariants.{Bad, Failed, Full}
use Rattle.certificate_walks.specs.declared.walk_answers.Stop.{Stop}
use Rattle.certificate_walks.specs.declared.walk_answers.WalkAnswer.{WalkAnswer}
use Rattle.certificate_walks.specs.declared.walk_answers.WalkAnswer.TheVariants.{Done, Refuses, Halts}
use Rattle.certificate_walks.specs.declared.items.ItemAnswer.TheVariants.{Item, End, Bad as BadAnswer}
use Rattle.certificate_walks.specs.Items.{ToldItems, Takes}
use Rattle.certificate_walks.specs.Walks.{WalkEnd, Left, Step, Below, Ends, go_on, walk_at, walk_step}
use Rattle.certificate_walks.specs.Follows.{held, Ending, Refused as RefusedFor, BadItem, Unread, Meets, Follows, Carries}
use Rattle.certificate_walks.specs.Parts.{IsPart, IsFoundBy, EndsHere, Finds, ending_of}
use Rattle.certificate_walks.specs.Answers.{ending, looked}
use Rattle.certificate_walks.specs.Taking.{Moment, Taking, taking_parts}
use Rattle.certificate_walks.proofs.CarryLaws.{then-carries, walk-carries}
use Rattle.certificate_walks.proofs.WalkLaws.{walk-suc}
use Rattle.certificate_walks.proofs.NodeLaws.{ends-here}
use Rattle.certificate_walks.proofs.ItemLaws.{refuses}
use Rattle.strategy_check.specs.declared.why.Why.{Why}
use Rattle.strategy_check.specs.declared.why.Why.TheVariants.{BadIndex, LeafFails, TooShort}
use Rattle.strategy_check.specs.Checks.{seen, index_sight, index_faults}
use Rattle.strategy_check.specs.Trace.{Steps, steps, index_rules, take_index, trace}
use Rattle.strategy_check.specs.Taking.{index-carries_on}
use Rattle.strategy_check.proofs.IndexWalks as items
use Rattle.strategy_lemmas.specs.declared.tokens.Token.{Token}
use Rattle.strategy_lemmas.specs.declared.tokens.Token.TheVariants.{Index, Cite}
use Rattle.strategy_lemmas.specs.declared.lemmas.Lemma.{Lemma}
use Rattle.strategy_lemmas.specs.Lemmas.{with_lemma, server}
use Rattle.strategy_lemmas.specs.Short.{ShortSteps, short_steps, passes_over, writes_index, short_take, short_rules}
use Rattle.certificate_text.specs.Text.{index_line}
use Rattle.certificate_citing.specs.declared.draft.Draft.{Draft}
use Rattle.certificate_citing.specs.declared.shortening.ShortWalk.{ShortWalk}
use Rattle.certificate_citing.specs.TokenText.{cite_line, token_lines}
use Rattle.certificate_citing.specs.Drafts.{with_index, with_cite}
use Rattle.certificate_citing.specs.Shortening.{ShortSeen, short_seen, draft_of, passed-past, short_sight, short_ending}
use Rattle.certificate_citing.specs.ShortTaking.{of_passed, of_short_stop, of_short_walk, short_stop_ending}
use Rattle.certificate_citing.proofs.TokenTextLaws.{lines-more}

-- ---- endings

ending-is : (w : Walked (Option (Stop Why))) → ending_of short_rules short_stop_ending w ≡ short_ending (of_short_walk w)
ending-is AllDone = refl
ending-is ALeafFails = refl
ending-is ABadIndex = refl
ending-is (Stops stop) = refl

pub meets-is : (o : WalkEnd ShortSteps Why) (w : Walked (Option (Stop Why))) (walked : Option (WalkAnswer Why)) (n : ShortSeen) → walked ≡ of_short_walk w → Meets short_sight o (ending_of short_rules short_stop_ending w) n → Meets short_sight o (short_ending walked) n
meets-is o w walked n is h = subst (λ (e : Ending Why). Meets short_sight o e n) (ending-is w ∙ ap short_ending (sym is)) h

module _ {I : Type 0} (at : ShortWalk I → Moment ℕ) where
  abbrev pub IsTold : Walked (Option (Stop Why)) → ShortWalk I → ShortWalk I → Type 0
  IsTold = IsPart (taking_parts index_faults of_short_stop at)

  part-is : (w : Walked (Option (Stop Why))) (a b : ShortWalk I) → IsTold w a b → Taking index_faults (of_short_walk w) (at a) (at b)
  part-is AllDone a b h = h
  part-is ALeafFails a b h = refuses index_faults LeafFails (at a) (at b) tt tt h
  part-is ABadIndex a b h = refuses index_faults BadIndex (at a) (at b) tt tt h
  part-is (Stops stop) a b h = h

  pub taking-is : (w : Walked (Option (Stop Why))) (walked : Option (WalkAnswer Why)) (a b : ShortWalk I) → walked ≡ of_short_walk w → IsTold w a b → Taking index_faults walked (at a) (at b)
  taking-is w walked a b is h = subst (λ (x : Option (WalkAnswer Why)). Taking index_faults x (at a) (at b)) (sym is) (part-is w a b h)

-- ---- what is seen

draft-is : (n k : ℕ) (ls ks : List Lemma) (t u : List ℕ) → n ≡ k → ls ≡ ks → t ≡ u →
    (let d : Draft = record { taken = n; lemmas = ls; text = t } in d ≡ record { taken = k; lemmas = ks; text = u })
draft-is n k ls ks t u a b c = λ i. record { taken = a i; lemmas = b i; text = c i }

pub seen-is : (a b : ToldItems ℕ) (d e : Draft) → a ≡ b → d ≡ e → short_seen a d ≡ short_seen b e
seen-is a b d e p q = λ i. short_seen (p i) (q i)

pub record Is (a : ToldItems ℕ) (d : Draft) (s : ShortSteps) : Type 0 where
  pub left : a ≡ Some s.items.left
  pub taken : d.taken ≡ held s.items.taken
  pub lemmas : d.lemmas ≡ s.lemmas
  pub text : d.text ≡ token_lines s.written

pub told-is : (a : ToldItems ℕ) (d : Draft) (s : ShortSteps) → short_seen a d ≡ short_sight.view s → Is a d s
told-is a d s e = record {
  left = ap (λ (x : ShortSeen). x.told) e;
  taken = ap (λ (x : ShortSeen). x.draft.taken) e;
  lemmas = ap (λ (x : ShortSeen). x.draft.lemmas) e;
  text = ap (λ (x : ShortSeen). x.draft.text) e;
}

items-is : (a : ToldItems ℕ) (d : Draft) (s : ShortSteps) → Is a d s → seen a d.taken ≡ index_sight.view s.items
items-is a d s is = items.seen-is a (Some s.items.left) d.taken (held s.items.taken) is.left is.taken

-- ---- a node at which no lemma serves

none-here : (k : KeyParts) (e : ℕ) (x : ℤ) (d : Draft) (s : ShortSteps) → d.lemmas ≡ s.lemmas → server k e x d.lemmas ≡ None → server k e x s.lemmas ≡ None
none-here k e x d s is none = ap (server k e x) (sym is) ∙ none

pub index-took : (p : Position) (d : ℕ) (x : ℤ) (a b : ToldItems ℕ) (draft : Draft) (i : ℕ) → Takes (Item i) a b → server (key p) d x draft.lemmas ≡ None → (s : ShortSteps) →
    short_seen a draft ≡ short_sight.view s → (s1 : ShortSteps) × (short_rules.take p d x s ≡ Below i s1) × (short_seen b (with_index i draft) ≡ short_sight.view s1)
index-took p d x a b draft i took none s e =
    let is = told-is a draft s e in
    let t = items.index-took a b draft.taken (held (draft.taken + 1)) i took refl s.items (items-is a draft s is) in
    let s1 = short_steps t.0 s.lemmas (s.written ++ Index i ∷ []) in (
      s1,
      ap (λ o. short_take o p d x s) (none-here (key p) d x draft s is.lemmas none) ∙ ap (λ (step : Step Steps Why). writes_index step s.lemmas s.written) t.1,
      seen-is b (Some t.0.left) (with_index i draft) (draft_of s1) (ap (λ x. x.told) t.2)
          (draft-is (held (draft.taken + 1)) (held t.0.taken) draft.lemmas s.lemmas (draft.text ++ index_line i) (token_lines (s.written ++ Index i ∷ [])) (ap (λ x. x.taken) t.2) is.lemmas
          (ap (λ u. u ++ index_line i) is.text ∙ sym (lines-more s.written (Index i)))),
    )

pub index-added : (p : Position) (d : ℕ) (x : ℤ) (a b : ToldItems ℕ) (draft added : Draft) (i : ℕ) → Takes (Item i) a b → server (key p) d x draft.lemmas ≡ None → added ≡ with_index i draft → (s : ShortSteps) →
    short_seen a draft ≡ short_sight.view s → (s1 : ShortSteps) × (short_rules.take p d x s ≡ Below i s1) × (short_seen b added ≡ short_sight.view s1)
index-added p d x a b draft added i took none is s e =
    let t = index-took p d x a b draft i took none s e in
    (t.0, t.1, seen-is b b added (with_index i draft) refl is ∙ t.2)

-- what is kept once it is shown
pub kept-is : (q r : KeyParts) (d : ℕ) (x y : ℤ) (before : Draft) (ls : List Lemma) → ls ≡ with_lemma q d y before.lemmas → q ≡ r → y ≡ x →
    (let after : Draft = record { taken = before.taken; lemmas = ls; text = before.text } in after ≡ record { taken = before.taken; lemmas = with_lemma r d x before.lemmas; text = before.text })
kept-is q r d x y before ls e eq ey =
    draft-is before.taken before.taken ls (with_lemma r d x before.lemmas) before.text before.text refl (e ∙ (λ i. with_lemma (eq i) d (ey i) before.lemmas)) refl

pub lemma-kept : (p : Position) (d : ℕ) (x : ℤ) (a : ToldItems ℕ) (draft : Draft) (s : ShortSteps) → short_seen a draft ≡ short_sight.view s →
    short_seen a (record { taken = draft.taken; lemmas = with_lemma (key p) d x draft.lemmas; text = draft.text }) ≡ short_sight.view (short_rules.keep p d x s)
lemma-kept p d x a draft s e =
    let is = told-is a draft s e in
    λ i. short_seen (is.left i) (record { taken = is.taken i; lemmas = with_lemma (key p) d x (is.lemmas i); text = is.text i })

-- ---- a node at which a lemma serves

passed-meets : (o : WalkEnd Steps Why) (w : WalkAnswer Why) (b : ToldItems ℕ) (k : ℕ) (ls ks : List Lemma) (ws : List Token) (u : List ℕ) → u ≡ token_lines ws → ks ≡ ls → Meets index_sight o (ending w) (seen b k) →
    Meets short_sight (passes_over o ls ws) (ending w) (short_seen b (record { taken = k; lemmas = ks; text = u }))
passed-meets o Done b k ls ks ws u text lemmas m = (
  short_steps m.0 ls ws,
  ap (λ (o : WalkEnd Steps Why). passes_over o ls ws) m.1,
  λ i. short_seen ((ap (λ x. x.told) m.2) i) (record { taken = (ap (λ x. x.taken) m.2) i; lemmas = lemmas i; text = text i }),
)
passed-meets o (Refuses why) b k ls ks ws u text lemmas m = (m.0, ap (λ (o : WalkEnd Steps Why). passes_over o ls ws) m.1, m.2)
passed-meets o (Halts Bad) b k ls ks ws u text lemmas m = (m.0, ap (λ (o : WalkEnd Steps Why). passes_over o ls ws) m.1, m.2)
passed-meets o (Halts Failed) b k ls ks ws u text lemmas m = passed-past k o ls ws m
passed-meets o (Halts Full) b k ls ks ws u text lemmas m = passed-past k o ls ws m

-- a node at which no lemma serves ends as the walk over the indices alone ends there
none-ends : (p : Position) (d : ℕ) (x : ℤ) (a b : ToldItems ℕ) (draft : Draft) (w : WalkAnswer Why) →
    ((s : Steps) → seen a draft.taken ≡ index_sight.view s → (o : WalkEnd Steps Why) × (take_index s.left s.taken ≡ Ends o) × Meets index_sight o (ending w) (seen b draft.taken)) →
    server (key p) d x draft.lemmas ≡ None → (s : ShortSteps) → short_seen a draft ≡ short_sight.view s → (o : WalkEnd ShortSteps Why) × (short_rules.take p d x s ≡ Ends o) × Meets short_sight o (ending w) (short_seen b draft)
none-ends p d x a b draft w took none s e =
    let is = told-is a draft s e in
    let t = took s.items (items-is a draft s is) in (
      passes_over t.0 s.lemmas s.written,
      ap (λ o. short_take o p d x s) (none-here (key p) d x draft s is.lemmas none) ∙ ap (λ (step : Step Steps Why). writes_index step s.lemmas s.written) t.1,
      passed-meets t.0 w b draft.taken s.lemmas draft.lemmas s.written draft.text is.text is.lemmas t.2,
    )

pub end-took : (p : Position) (d : ℕ) (x : ℤ) (a b : ToldItems ℕ) (draft : Draft) → Takes End a b → server (key p) d x draft.lemmas ≡ None → (s : ShortSteps) → short_seen a draft ≡ short_sight.view s →
    (o : WalkEnd ShortSteps Why) × (short_rules.take p d x s ≡ Ends o) × Meets short_sight o (RefusedFor TooShort) (short_seen b draft)
end-took p d x a b draft took none s e = none-ends p d x a b draft (Refuses TooShort) (items.end-took a b draft.taken took) none s e

pub bad-took : (p : Position) (d : ℕ) (x : ℤ) (a b : ToldItems ℕ) (draft : Draft) → Takes BadAnswer a b → server (key p) d x draft.lemmas ≡ None → (s : ShortSteps) → short_seen a draft ≡ short_sight.view s →
    (o : WalkEnd ShortSteps Why) × (short_rules.take p d x s ≡ Ends o) × Meets short_sight o BadItem (short_seen b draft)
bad-took p d x a b draft took none s e = none-ends p d x a b draft (Halts Bad) (items.bad-took a b draft.taken took) none s e

pass-told : (p : Position) (d : ℕ) (x : ℤ) (n : ℕ) (a b : ToldItems ℕ) (draft : Draft) (k : ℕ) (w : WalkAnswer Why) → server (key p) d x draft.lemmas ≡ Some n →
    Follows index_sight (trace p d (AtLeast x)) (seen a draft.taken) (ending w) (seen b k) →
    EndsHere short_rules short_sight p d x (short_seen a draft) (ending w) (short_seen b (record { taken = k; lemmas = draft.lemmas; text = draft.text ++ cite_line n }))
pass-told p d x n a b draft k w served told =
    ends-here short_rules short_sight p d x (short_seen a draft) (short_seen b (record { taken = k; lemmas = draft.lemmas; text = draft.text ++ cite_line n })) (ending w) (λ s e.
    let is = told-is a draft s e in
    let here : server (key p) d x s.lemmas ≡ Some n = ap (server (key p) d x) (sym is.lemmas) ∙ served in (
      passes_over (trace p d (AtLeast x) s.items) s.lemmas (s.written ++ Cite n ∷ []),
      ap (λ o. short_take o p d x s) here,
      passed-meets (trace p d (AtLeast x) s.items) w b k s.lemmas draft.lemmas (s.written ++ Cite n ∷ []) (draft.text ++ cite_line n) (ap (λ u. u ++ cite_line n) is.text ∙ sym (lines-more s.written (Cite n))) is.lemmas
          (told s.items (items-is a draft s is)),
    ))

pub pass-ends : (p : Position) (d : ℕ) (x y : ℤ) (n : ℕ) (a b : ToldItems ℕ) (draft cited : Draft) (k : ℕ) (w : WalkAnswer Why) → server (key p) d x draft.lemmas ≡ Some n → cited ≡ with_cite n draft → y ≡ x →
    Follows index_sight (trace p d (AtLeast y)) (seen a cited.taken) (ending w) (seen b k) →
    EndsHere short_rules short_sight p d x (short_seen a draft) (ending w) (short_seen b (record { taken = k; lemmas = cited.lemmas; text = cited.text }))
pass-ends p d x y n a b draft cited k w served e ey told =
    let first : Follows index_sight (trace p d (AtLeast x)) (seen a draft.taken) (ending w) (seen b k) =
    subst (λ (z : Draft). Follows index_sight (trace p d (AtLeast x)) (seen a z.taken) (ending w) (seen b k)) e (subst (λ (z : ℤ). Follows index_sight (trace p d (AtLeast z)) (seen a cited.taken) (ending w) (seen b k)) ey told) in
    let base : EndsHere short_rules short_sight p d x (short_seen a draft) (ending w) (short_seen b (record { taken = k; lemmas = draft.lemmas; text = draft.text ++ cite_line n })) = pass-told p d x n a b draft k w served first in
    subst (λ (z : Draft). EndsHere short_rules short_sight p d x (short_seen a draft) (ending w) (short_seen b (record { taken = k; lemmas = z.lemmas; text = z.text }))) (sym e) base

-- the node's answer to it
found : (p : Position) (d : ℕ) (x : ℤ) (w : Option (WalkAnswer Why)) (a b : ShortSeen) → EndsHere short_rules short_sight p d x a (short_ending w) b → Finds short_rules short_sight short_stop_ending p d x (of_passed w) a b
found p d x None a b h = h
found p d x (Some Done) a b h = h
found p d x (Some (Refuses why)) a b h = h
found p d x (Some (Halts halt)) a b h = h

pub found-is : (p : Position) (d : ℕ) (x : ℤ) (w : Option (WalkAnswer Why)) (r : Took (Option (Stop Why))) (a b : ShortSeen) → r ≡ of_passed w → EndsHere short_rules short_sight p d x a (short_ending w) b → Finds short_rules short_sight short_stop_ending p d x r a b
found-is p d x w r a b is h = subst (λ (u : Took (Option (Stop Why))). Finds short_rules short_sight short_stop_ending p d x u a b) (sym is) (found p d x w a b h)

module _ {I : Type 0} (at : ShortWalk I → Moment ℕ) where
  abbrev IsFound : Took (Option (Stop Why)) → ShortWalk I → ShortWalk I → Type 0
  IsFound = IsFoundBy (taking_parts index_faults of_short_stop at)

  passed : (w : Option (WalkAnswer Why)) (a b : ShortWalk I) → Taking index_faults w (at a) (at b) → IsFound (of_passed w) a b
  passed None a b h = h
  passed (Some Done) a b h = h
  passed (Some (Refuses why)) a b h = h
  passed (Some (Halts halt)) a b h = h

  pub passed-is : (w : Option (WalkAnswer Why)) (r : Took (Option (Stop Why))) (a b : ShortWalk I) → r ≡ of_passed w → Taking index_faults w (at a) (at b) → IsFound r a b
  passed-is w r a b is h = subst (λ (u : Took (Option (Stop Why))). IsFound u a b) (sym is) (passed w a b h)

pub on-true : {P : Type 0} (r : Bool) → OnTrue r P → r ≡ true → P
on-true true h e = h
on-true false h e = cc

-- the place that the code finds
pub server-is : (p : Position) (q : KeyParts) (d : ℕ) (x y : ℤ) (ls : List Lemma) (o : Option ℕ) → o ≡ server q d y ls → q ≡ key p → y ≡ x → o ≡ server (key p) d x ls
server-is p q d x y ls o e eq ey = e ∙ (λ i. server (eq i) d (ey i) ls)

-- ---- if no more could be read, or there was no memory for a token

place-looks : (f : Move → ShortSteps → WalkEnd ShortSteps Why) → ((m : Move) → Carries short_sight (f m)) → (m : Option Move) (s : ShortSteps) (n : ShortSeen) → n.draft.taken < s.items.taken → short_sight.unread (walk_at BadIndex s.items.taken f m s) n
place-looks f carries None s n more = omega (arith, more)
place-looks f carries (Some m) s n more = carries m s n more

step-looks : (xs : List (Option ℕ)) (k : ℕ) (ls : List Lemma) (ws : List Token) (f : Move → ShortSteps → WalkEnd ShortSteps Why) (ms : List Move) → ((m : Move) → Carries short_sight (f m)) → (n : ShortSeen) → n.draft.taken < k + 1 →
    short_sight.unread (walk_step short_rules f ms (writes_index (take_index xs k) ls ws)) n
step-looks [] k ls ws f ms carries n more = more
step-looks (None ∷ xs) k ls ws f ms carries n more = more
step-looks (Some i ∷ xs) k ls ws f ms carries n more = place-looks f carries (slice_get ms i) (short_steps (steps xs (k + 1)) ls (ws ++ Index i ∷ [])) n more

-- a node at which no lemma serves looks for one index more
pub not-taken : (p : Position) (d : ℕ) (x : ℤ) (a b : ToldItems ℕ) (draft after : Draft) → after.taken ≡ draft.taken → server (key p) d x draft.lemmas ≡ None → EndsHere short_rules short_sight p d x (short_seen a draft) Unread (short_seen b after)
not-taken p d x a b draft after same none = λ f ms carries s e.
    let is = told-is a draft s e in
    let count = is.taken in
    let low : after.taken < s.items.taken + 1 = omega (arith, same, count) in
    subst (λ (o : Option ℕ). short_sight.unread (walk_step short_rules f ms (short_take o p d x s)) (short_seen b after)) (sym (none-here (key p) d x draft s is.lemmas none))
    (step-looks s.items.left s.items.taken s.lemmas s.written f ms carries (short_seen b after) low)

-- a node that is passed over looks for one index more
pass-looks : (p : Position) (d : ℕ) (x : ℤ) (s : Steps) → IsInner p d → held s.taken < looked index_faults (λ t. t.taken) (trace p d (AtLeast x) s)
pass-looks p zero x s inner = let deep = inner.deep in absurd (omega (arith, deep))
pass-looks p (suc e) x s inner =
    let below : Move → Steps → WalkEnd Steps Why = λ m s1. go_on (trace (later p m) e (AtMost (neg_ℤ x)) s1) (λ s2. Left (index_rules.keep p (suc e) x s2)) in
    let carries : (m : Move) → Carries index_sight (below m) =
    λ m. then-carries index_sight (trace (later p m) e (AtMost (neg_ℤ x))) (λ s2. Left (index_rules.keep p (suc e) x s2)) (walk-carries index_rules index_sight index-carries_on e (later p m) (AtMost (neg_ℤ x))) (index-carries_on.keep p (suc e) x) in
    subst (λ (o : WalkEnd Steps Why). held s.taken < looked index_faults (λ t. t.taken) o) (sym (walk-suc index_rules p e (AtLeast x) s inner.open_))
    (items.unread-took (Some s.left) None (held s.taken) below (moves p) carries s refl)

pub not-cited : (p : Position) (d : ℕ) (x : ℤ) (n : ℕ) (a b : ToldItems ℕ) (draft after : Draft) → after.taken ≡ draft.taken → IsInner p d → server (key p) d x draft.lemmas ≡ Some n → EndsHere short_rules short_sight p d x (short_seen a draft) Unread (short_seen b after)
not-cited p d x n a b draft after same inner served = λ f ms carries s e.
    let is = told-is a draft s e in
    let here : server (key p) d x s.lemmas ≡ Some n = ap (server (key p) d x) (sym is.lemmas) ∙ served in
    let all = trace p d (AtLeast x) s.items in
    let past : after.taken < looked index_faults (λ t. t.taken) all = subst (λ (k : ℕ). k < looked index_faults (λ t. t.taken) all) (sym (same ∙ is.taken)) (pass-looks p d x s.items inner) in
    subst (λ (o : Option ℕ). short_sight.unread (walk_step short_rules f ms (short_take o p d x s)) (short_seen b after)) (sym here)
    (passed-past after.taken all s.lemmas (s.written ++ Cite n ∷ []) past)

pub on-false : {P : Type 0} (r : Bool) → OnFalse r P → r ≡ false → P
on-false true h e = cc
on-false false h e = h
