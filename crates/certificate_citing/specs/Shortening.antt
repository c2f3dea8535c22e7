-- What the code sees of a walk that writes tokens, if its indices are observable.
use Rattle.std.proofs.Common.{◌≡◌, ◌<◌, ℕ, List, [], ◌∷◌, ◌++◌, ℤ, Option, None, Some, refl, subst, arith}
use Rattle.hive_model.specs.Positions.{Position}
use Rattle.hive_model.specs.Keys.{key}
use Rattle.certificate_walks.specs.declared.limit.Limit.TheVariants.{AtLeast}
use Rattle.certificate_walks.specs.Walks.{WalkEnd, Left, Fault, Halt, Step, Below, Ends}
use Rattle.certificate_walks.specs.Follows.{held, Sight, Ending, Unread, CarriesOn}
use Rattle.certificate_walks.specs.Items.{ToldItems}
use Rattle.certificate_walks.specs.Answers.{ending, looked}
use Rattle.certificate_walks.specs.declared.walk_answers.WalkAnswer.{WalkAnswer}
use Rattle.certificate_walks.proofs.CarryLaws.{walk-carries}
use Rattle.strategy_check.specs.declared.why.Why.{Why}
use Rattle.strategy_check.specs.Trace.{Steps, index_rules, take_index, trace}
use Rattle.strategy_check.specs.Checks.{index_faults, index_sight, seen}
use Rattle.strategy_check.specs.Taking.{index-carries_on}
use Rattle.strategy_lemmas.specs.declared.lemmas.Lemma.{Lemma}
use Rattle.strategy_lemmas.specs.declared.tokens.Token.{Token}
use Rattle.strategy_lemmas.specs.declared.tokens.Token.TheVariants.{Cite, Index}
use Rattle.strategy_lemmas.specs.Lemmas.{server}
use Rattle.strategy_lemmas.specs.Short.{ShortSteps, passes_over, short_rules, short_steps, short_take, writes_index}
use Rattle.certificate_citing.specs.declared.draft.Draft.{Draft}
use Rattle.certificate_citing.specs.TokenText.{token_lines}

-- the observable items, and the draft
pub record ShortSeen : Type 0 where
  pub told : ToldItems ℕ
  pub draft : Draft

abbrev pub short_seen : ToldItems ℕ → Draft → ShortSeen
short_seen told draft = record { told = told; draft = draft }

-- the draft of a walk: what it wrote, one token a line
abbrev pub draft_of : ShortSteps → Draft
draft_of s =
    record { taken = held s.items.taken; lemmas = s.lemmas; text = token_lines s.written }

-- the walk looks for more than n indices
abbrev pub LooksPast : ℕ → WalkEnd ShortSteps Why → Type 0
LooksPast n o = n < looked index_faults (λ s. s.items.taken) o

-- what the code sees of what is left to a walk
abbrev pub short_sight : Sight ShortSteps Why ShortSeen
short_sight = record {
  view = λ s. short_seen (Some s.items.left) (draft_of s);
  place = λ n. n.draft.taken;
  unread = λ o n. LooksPast n.draft.taken o;
}

-- ---- its laws

-- a walk that writes tokens looks for what the walk over the indices alone looks for
pub passed-past : (n : ℕ) (o : WalkEnd Steps Why) (ls : List Lemma) (ws : List Token)
    → n < looked index_faults (λ s. s.taken) o → LooksPast n (passes_over o ls ws)
passed-past n (Left s) ls ws h = h
passed-past n (Fault why k) ls ws h = h
passed-past n (Halt k) ls ws h = h

step-below : (step : Step Steps Why) (p : Position) (e : ℕ) (x : ℤ) (s : ShortSteps) (i n : ℕ)
    (t : ShortSteps) → take_index s.items.left s.items.taken ≡ step
    → writes_index step s.lemmas s.written ≡ Below i t → n < s.items.taken → n < t.items.taken
step-below (Below j u) p e x s i n t took below h =
    let same : short_steps u s.lemmas (s.written ++ Index j ∷ []) ≡ t = cc in
    let more : n < u.taken = index-carries_on.below p e x j s.items u took (seen None n) h in
    subst (λ (v : ShortSteps). n < v.items.taken) same more
step-below (Ends o) p e x s i n t took below h = cc

take-below : (o : Option ℕ) (p : Position) (e : ℕ) (x : ℤ) (s : ShortSteps) (i n : ℕ)
    (t : ShortSteps) → short_take o p e x s ≡ Below i t → n < s.items.taken → n < t.items.taken
take-below None p e x s i n t below h =
    step-below (take_index s.items.left s.items.taken) p e x s i n t refl below h
take-below (Some k) p e x s i n t below h = cc

step-ends : (step : Step Steps Why) (p : Position) (e : ℕ) (x : ℤ) (s : ShortSteps) (n : ℕ)
    (o : WalkEnd ShortSteps Why) → take_index s.items.left s.items.taken ≡ step
    → writes_index step s.lemmas s.written ≡ Ends o → n < s.items.taken → LooksPast n o
step-ends (Below j u) p e x s n o took ends h = cc
step-ends (Ends q) p e x s n o took ends h =
    let same : passes_over q s.lemmas s.written ≡ o = cc in
    let past = index-carries_on.ends p e x s.items q took (seen None n) h in
    subst (LooksPast n) same (passed-past n q s.lemmas s.written past)

take-ends : (k : Option ℕ) (p : Position) (e : ℕ) (x : ℤ) (s : ShortSteps) (n : ℕ)
    (o : WalkEnd ShortSteps Why) → short_take k p e x s ≡ Ends o → n < s.items.taken
    → LooksPast n o
take-ends None p e x s n o ends h =
    step-ends (take_index s.items.left s.items.taken) p e x s n o refl ends h
take-ends (Some k) p e x s n o ends h =
    let all = trace p e (AtLeast x) s.items in
    let cited = s.written ++ Cite k ∷ [] in
    let same : passes_over all s.lemmas cited ≡ o = cc in
    let carries = walk-carries index_rules index_sight index-carries_on e p (AtLeast x) in
    let past = carries s.items (seen None n) h in
    subst (LooksPast n) same (passed-past n all s.lemmas cited past)

-- however a walk goes on, it looks for no fewer indices
pub short-carries_on : CarriesOn short_rules short_sight
short-carries_on = record {
  leaf = λ s n h. omega (arith, h);
  place = λ s n h. omega (arith, h);
  below = λ p e x i s t took n h.
      take-below (server (key p) e x s.lemmas) p e x s i n.draft.taken t took h;
  ends = λ p e x s o took n h.
      take-ends (server (key p) e x s.lemmas) p e x s n.draft.taken o took h;
  keep = λ p e x s n h. h;
}

-- how a part of a walk ended, or `None` if there was no memory for a token
abbrev pub short_ending : Option (WalkAnswer Why) → Ending Why
short_ending None = Unread
short_ending (Some walked) = ending walked
