-- Laws of the greatest of some numbers.
use Rattle.std.proofs.Common.{◌≡◌, ℕ, zero, suc, ◌<◌, List, [], ◌∷◌, length, map, refl, ap, arith, ◌∙◌, ℤ, ◌≤ℤ◌, Some}
use Rattle.std.proofs.lemmas.Int.{ints, clamps}
use Rattle.std.specs.List.{slice_get}
use Rattle.std.specs.Int.{int_max}
use Rattle.hive_model.specs.declared.places.Move.{Move}
use Rattle.hive_model.specs.Minimax.{greatest_from, greatest}

int_max-assoc : (a x y : ℤ) → int_max (int_max a x) y ≡ int_max a (int_max x y)
int_max-assoc a x y = omega (arith, ints, clamps)

greatest_from-max : (a x : ℤ) (xs : List ℤ) → greatest_from (int_max a x) xs ≡ int_max a (greatest_from x xs)
greatest_from-max a x [] = refl
greatest_from-max a x (y ∷ ys) = ap (λ z. greatest_from z ys) (int_max-assoc a x y) ∙ greatest_from-max a (int_max x y) ys

pub greatest_from-greatest : (a : ℤ) (r : Move → ℤ) (ms : List Move) → 0 < length ms → greatest_from a (map r ms) ≡ int_max a (greatest (map r ms))
greatest_from-greatest a r [] some = absurd (omega arith)
greatest_from-greatest a r (m ∷ ms) some = greatest_from-max a (r m) (map r ms)

pub greatest_from-start : (a : ℤ) (xs : List ℤ) → a ≤ℤ greatest_from a xs
greatest_from-start a [] = omega (arith, ints)
greatest_from-start a (x ∷ xs) = let k : int_max a x ≤ℤ greatest_from (int_max a x) xs = greatest_from-start (int_max a x) xs in omega (arith, ints, clamps)

greatest_from-each : (r : Move → ℤ) (ms : List Move) (i : ℕ) (m : Move) (a : ℤ) → slice_get ms i ≡ Some m → r m ≤ℤ greatest_from a (map r ms)
greatest_from-each r [] i m a e = cc
greatest_from-each r (n ∷ ms) zero m a e =
    let k : int_max a (r n) ≤ℤ greatest_from (int_max a (r n)) (map r ms) = greatest_from-start (int_max a (r n)) (map r ms) in
    let same : n ≡ m = cc in
    omega (arith, ints, clamps, ap r same)
greatest_from-each r (n ∷ ms) (suc i) m a e = greatest_from-each r ms i m (int_max a (r n)) e

pub greatest-each : (r : Move → ℤ) (ms : List Move) (i : ℕ) (m : Move) → slice_get ms i ≡ Some m → r m ≤ℤ greatest (map r ms)
greatest-each r [] i m e = cc
greatest-each r (n ∷ ms) zero m e =
    let k : r n ≤ℤ greatest_from (r n) (map r ms) = greatest_from-start (r n) (map r ms) in
    let same : n ≡ m = cc in
    omega (arith, ints, ap r same)
greatest-each r (n ∷ ms) (suc i) m e = greatest_from-each r ms i m (r n) e
