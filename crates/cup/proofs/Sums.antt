-- Sums of points.
use Rattle.std.proofs.Common.{◌≡◌, ℕ, zero, suc, ◌+◌, List, [], ◌∷◌, length, drop, Some, ap, arith, ◌∙◌, ◌≤◌, refl}
use Rattle.std.specs.List.{slice_get, sum_by, zip}
use Rattle.std.proofs.lemmas.List.Sums.{sum_by-cons}
use Rattle.std.proofs.lemmas.List.{drop_all}
use Rattle.hive_model.proofs.GetLemmas.{drop-at}

-- at a place are the two elements that are there in each list
pub zip-at : {A B : Type 0} (xs : List A) (ys : List B) (i : ℕ) (x : A) (y : B) → slice_get xs i ≡ Some x → slice_get ys i ≡ Some y → slice_get (zip xs ys) i ≡ Some (x, y)
zip-at [] ys i x y e f = cc
zip-at (a ∷ xs) [] i x y e f = cc
zip-at (a ∷ xs) (b ∷ ys) zero x y e f = let first : a ≡ x = cc in let second : b ≡ y = cc in rw (first, second) refl
zip-at (a ∷ xs) (b ∷ ys) (suc i) x y e f = zip-at xs ys i x y e f

-- a sum, with the first i elements added
pub sum-step : {A : Type 0} (f : A → ℕ) (xs : List A) (i n all : ℕ) (x : A) → slice_get xs i ≡ Some x → n + sum_by f (drop i xs) ≡ all → n + f x + sum_by f (drop (i + 1) xs) ≡ all
sum-step f xs i n all x here so =
    let e : sum_by f (drop i xs) ≡ f x + sum_by f (drop (i + 1) xs) = ap (sum_by f) (drop-at xs i x here) ∙ sum_by-cons f x (drop (i + 1) xs) in
    omega (arith, so, e)

pub sum-end : {A : Type 0} (f : A → ℕ) (xs : List A) (i n all : ℕ) → length xs ≤ i → n + sum_by f (drop i xs) ≡ all → n ≡ all
sum-end f xs i n all past so =
    let e : sum_by f (drop i xs) ≡ 0 = ap (sum_by f) (drop_all i xs past) in
    omega (arith, so, e)
