-- What contracts know of indices at one moment of a walk.
use Rattle.std.proofs.Common.{◌≡◌, ◌<◌, ◌≤◌, ◌+◌, ℕ, List, [], ◌∷◌, Option, None, Some, ap, arith, subst}
use Rattle.certificate_walks.specs.Items.{Supply}
use Rattle.certificate_walks.specs.Taking.{Moment, moment_of}
use Rattle.certificate_walks.specs.Answers.{looked}
use Rattle.certificate_walks.specs.Follows.{CarriesOn}
use Rattle.certificate_walks.specs.Walks.{WalkEnd, Fault, Halt, Step, Below, Ends}
use Rattle.strategy_check.specs.declared.why.Why.{Why}
use Rattle.strategy_check.specs.declared.why.Why.TheVariants.{TooShort}
use Rattle.strategy_check.specs.declared.walk.IndexWalk.{IndexWalk}
use Rattle.strategy_check.specs.Trace.{Steps, steps, take_index, index_rules}
use Rattle.strategy_check.specs.Checks.{index_faults, index_sight}

-- the moment of a walk over indices, given what is known of them
abbrev pub moment : {I : Type 0} → (I → Supply ℕ) → IndexWalk I → Moment ℕ
moment supply walk =
    moment_of (walk.indices.ghost_name ∷ []) walk.taken (supply walk.indices.now)

-- ---- its laws

below-on : (xs : List (Option ℕ)) (n i : ℕ) (t : Steps) → take_index xs n ≡ Below i t → n ≤ t.taken
below-on [] n i t e = cc
below-on (None ∷ xs) n i t e = cc
below-on (Some j ∷ xs) n i t e =
    let same : steps xs (n + 1) ≡ t = cc in
    let more : n + 1 ≡ t.taken = ap (λ (u : Steps). u.taken) same in
    omega (arith, more)

ends-on : (xs : List (Option ℕ)) (k : ℕ) (o : WalkEnd Steps Why) → take_index xs k ≡ Ends o
    → k < looked index_faults (λ s. s.taken) o
ends-on [] k o e =
    let same : Fault TooShort k ≡ o = cc in
    subst (λ (u : WalkEnd Steps Why). k < looked index_faults (λ s. s.taken) u) same (omega arith)
ends-on (None ∷ xs) k o e =
    let same : Halt k ≡ o = cc in
    subst (λ (u : WalkEnd Steps Why). k < looked index_faults (λ s. s.taken) u) same (omega arith)
ends-on (Some j ∷ xs) k o e = cc

-- however a walk goes on, it looks for no fewer indices
pub index-carries_on : CarriesOn index_rules index_sight
index-carries_on = record {
  leaf = λ s n h. omega (arith, h);
  place = λ s n h. omega (arith, h);
  below = λ p e x i s t took n h.
      let on = below-on s.left s.taken i t took in
      omega (arith, h, on);
  ends = λ p e x s o took n h.
      let past = ends-on s.left s.taken o took in
      omega (arith, h, past);
  keep = λ p e x s n h. h;
}
