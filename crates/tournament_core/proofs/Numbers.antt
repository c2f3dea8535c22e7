-- Sums over the numbers of engines.
use Rattle.std.proofs.Common.{◌≡◌, ℕ, zero, suc, ◌+◌, ◌-◌, ◌<◌, ◌≤◌, Bool, true, false, cond, [], ◌∷◌, refl, sym, ap, arith, ◌∙◌, inl, inr}
use Rattle.std.specs.Prelude.{nat_eq, ◌&&◌}
use Rattle.std.specs.List.{sum_by}
use Rattle.std.proofs.lemmas.Bool.{cases_eq}
use Rattle.std.proofs.lemmas.Bool.Decides.{nat_tests}
use Rattle.std.proofs.lemmas.List.Sums.{sum_by-cons}
use Rattle.hive_model.specs.Lists.{count_from}
use Rattle.tournament_core.specs.Schedules.{IsEngine, numbers}
use Rattle.tournament_core.proofs.Eachs.{IsFrom}
use Rattle.tournament_core.proofs.SumLaws.{sum-zero}

-- ---- a loop over them

pub count-next : (n b : ℕ) → b ≤ n → count_from b (n + 1 - b) ≡ b ∷ count_from (b + 1) (n + 1 - (b + 1))
count-next n b low = let more : n + 1 - b ≡ suc (n + 1 - (b + 1)) = omega (arith, low) in rw more refl

pub count-none : (n b : ℕ) → n + 1 ≤ b → count_from b (n + 1 - b) ≡ []
count-none n b past = let none : n + 1 - b ≡ 0 = omega (arith, past) in rw none refl

-- the sum of those that are left
abbrev pub sum_left : (ℕ → ℕ) → ℕ → ℕ → ℕ
sum_left f n b = sum_by f (count_from b (n + 1 - b))

pub sum-begin : (f : ℕ → ℕ) (n : ℕ) → 0 + sum_left f n 1 ≡ sum_by f (numbers n)
sum-begin f n = let all : n + 1 - 1 ≡ n = omega arith in let e = ap (λ k. sum_by f (count_from 1 k)) all in omega (arith, e)

pub sum-next : (f : ℕ → ℕ) (n b s all : ℕ) → b ≤ n → s + sum_left f n b ≡ all → s + f b + sum_left f n (b + 1) ≡ all
sum-next f n b s all low so =
    let e : sum_left f n b ≡ f b + sum_left f n (b + 1) = ap (sum_by f) (count-next n b low) ∙ sum_by-cons f b (count_from (b + 1) (n + 1 - (b + 1))) in
    omega (arith, so, e)

pub sum-done : (f : ℕ → ℕ) (n b s all : ℕ) → n + 1 ≤ b → s + sum_left f n b ≡ all → s ≡ all
sum-done f n b s all past so =
    let e : sum_left f n b ≡ 0 = ap (sum_by f) (count-none n b past) in
    omega (arith, so, e)

-- ---- one of them

none-of : (f : ℕ → ℕ) (w k a : ℕ) → w < a → sum_by (λ e. cond (nat_eq w e) (f e) 0) (count_from a k) ≡ 0
none-of f w zero a low = refl
none-of f w (suc k) a low =
    let other : nat_eq w a ≡ false = grind (arith, nat_tests) in
    let first : cond (nat_eq w a) (f a) 0 ≡ 0 = ap (λ t. cond t (f a) 0) other in
    let rest = none-of f w k (a + 1) (omega (arith, low)) in
    sum_by-cons (λ e. cond (nat_eq w e) (f e) 0) a (count_from (a + 1) k) ∙ omega (arith, first, rest)

pub one-of : (f : ℕ → ℕ) (w k a : ℕ) → IsFrom a k w → sum_by (λ e. cond (nat_eq w e) (f e) 0) (count_from a k) ≡ f w
one-of f w zero a in_ = absurd (omega (arith, in_.low, in_.high))
one-of f w (suc k) a in_ = elim (cases_eq w a) [
  | inl same ↦
      let is : nat_eq w a ≡ true = grind (arith, nat_tests) in
      let first : cond (nat_eq w a) (f a) 0 ≡ f w = ap (λ t. cond t (f a) 0) is ∙ ap f (sym same) in
      let rest = none-of f w k (a + 1) (omega (arith, same)) in
      sum_by-cons (λ e. cond (nat_eq w e) (f e) 0) a (count_from (a + 1) k) ∙ omega (arith, first, rest)
  | inr other ↦
      let not_ : nat_eq w a ≡ false = grind (arith, nat_tests) in
      let first : cond (nat_eq w a) (f a) 0 ≡ 0 = ap (λ t. cond t (f a) 0) not_ in
      let rest = one-of f w k (a + 1) (record { low = omega (arith, other, in_.low); high = omega (arith, in_.high) }) in
      sum_by-cons (λ e. cond (nat_eq w e) (f e) 0) a (count_from (a + 1) k) ∙ omega (arith, first, rest)
]

pub outside : (f : ℕ → ℕ) (w k a : ℕ) → a + k ≤ w → sum_by (λ e. cond (nat_eq w e) (f e) 0) (count_from a k) ≡ 0
outside f w zero a past = refl
outside f w (suc k) a past =
    let other : nat_eq w a ≡ false = grind (arith, nat_tests) in
    let first : cond (nat_eq w a) (f a) 0 ≡ 0 = ap (λ t. cond t (f a) 0) other in
    let rest = outside f w k (a + 1) (omega (arith, past)) in
    sum_by-cons (λ e. cond (nat_eq w e) (f e) 0) a (count_from (a + 1) k) ∙ omega (arith, first, rest)

pub below : (f : ℕ → ℕ) (w k a : ℕ) → w < a → sum_by (λ e. cond (nat_eq w e) (f e) 0) (count_from a k) ≡ 0
below f w k a low = none-of f w k a low

-- one of all engines counts, if a test passes
pub pick : (f : ℕ → ℕ) (t : Bool) (n w : ℕ) → IsEngine n w → sum_by (λ e. cond (t && nat_eq w e) (f e) 0) (numbers n) ≡ cond t (f w) 0
pick f true n w is = one-of f w n 1 (record { low = is.low; high = omega (arith, is.high) })
pick f false n w is = sum-zero (numbers n)

and-true : (t : Bool) → t ≡ (t && true)
and-true true = refl
and-true false = refl

and-false : (t : Bool) → false ≡ (t && false)
and-false true = refl
and-false false = refl

-- the same with the tests swapped
pub pick-back : (f : ℕ → ℕ) (t : Bool) (n w : ℕ) → IsEngine n w → sum_by (λ e. cond (nat_eq w e && t) (f e) 0) (numbers n) ≡ cond t (f w) 0
pick-back f true n w is = sym (λ i. sum_by (λ e. cond (and-true (nat_eq w e) i) (f e) 0) (numbers n)) ∙ pick f true n w is
pick-back f false n w is = sym (λ i. sum_by (λ e. cond (and-false (nat_eq w e) i) (f e) 0) (numbers n)) ∙ sum-zero (numbers n)
