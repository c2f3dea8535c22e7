-- A fact about each element of a list.
use Rattle.std.proofs.Common.{ℕ, zero, suc, ◌+◌, ◌<◌, ◌≤◌, List, [], ◌∷◌, ◌++◌, arith}
use Rattle.std.specs.List.{All}
use Rattle.std.proofs.lemmas.List.Elements.{All-head, All-tail}
use Rattle.hive_model.specs.Lists.{count_from}
use Rattle.tournament_core.specs.Ends.{Each}
use Rattle.tournament_core.specs.Schedules.{IsEngine, numbers}

pub each-all : {A : Type 0} (P : A → Type 0) (xs : List A) → All P xs → Each P xs
each-all P [] all = tt
each-all P (x ∷ xs) all = (All-head P x xs all, each-all P xs (All-tail P x xs all))

pub each-turned : {A : Type 0} (P Q : A → Type 0) (xs : List A) → ((x : A) → P x → Q x) → Each P xs → Each Q xs
each-turned P Q [] f each = tt
each-turned P Q (x ∷ xs) f each = (f x each.0, each-turned P Q xs f each.1)

pub each-append : {A : Type 0} (P : A → Type 0) (xs ys : List A) → Each P xs → Each P ys → Each P (xs ++ ys)
each-append P [] ys a b = b
each-append P (x ∷ xs) ys a b = (a.0, each-append P xs ys a.1 b)

pub each-every : {A : Type 0} (P : A → Type 0) (xs : List A) → ((x : A) → P x) → Each P xs
each-every P [] f = tt
each-every P (x ∷ xs) f = (f x, each-every P xs f)

-- this many numbers, from a first one on
pub record IsFrom (a k j : ℕ) : Type 0 where
  pub low : a ≤ j
  pub high : j < a + k

pub each-number : (k a : ℕ) → Each (IsFrom a k) (count_from a k)
each-number zero a = tt
each-number (suc k) a = (
  record { low = omega arith; high = omega arith },
  each-turned (IsFrom (a + 1) k) (IsFrom a (suc k)) (count_from (a + 1) k) (λ j in_. record { low = omega (arith, in_.low); high = omega (arith, in_.high) }) (each-number k (a + 1)),
)

pub each-engine : (n : ℕ) → Each (IsEngine n) (numbers n)
each-engine n = each-turned (IsFrom 1 n) (IsEngine n) (numbers n) (λ j in_. record { low = in_.low; high = omega (arith, in_.high) }) (each-number n 1)
