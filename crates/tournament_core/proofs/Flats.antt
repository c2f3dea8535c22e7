-- The element at a place of a list that is made of lists.
use Rattle.std.proofs.Common.{◌≡◌, ℕ, zero, suc, ◌+◌, ◌*◌, Bool, List, [], ◌∷◌, ◌++◌, length, Some, None, refl, sym, ap, arith, ◌∙◌, zero-add}
use Rattle.std.specs.Prelude.{slice_get}
use Rattle.std.specs.List.{flat_map, count_by, sum_by}
use Rattle.std.proofs.lemmas.List.Concat.{length-flat_map}
use Rattle.std.proofs.lemmas.List.Sums.{sum_by-append, sum_by-cons}
use Rattle.hive_model.proofs.GetLemmas.{get_in_front}
use Rattle.tournament_core.proofs.Eachs.{each-every}
use Rattle.tournament_core.proofs.SumLaws.{sum-same}

-- after the first list
pub get-behind : {A : Type 0} (xs ys : List A) (m : ℕ) → slice_get (xs ++ ys) (length xs + m) ≡ slice_get ys m
get-behind [] ys m = ap (slice_get ys) (zero-add m)
get-behind (x ∷ xs) ys m =
    let e : suc (length xs) + m ≡ suc (length xs + m) = omega arith in
    ap (slice_get (x ∷ (xs ++ ys))) e ∙ get-behind xs ys m

-- lists of the same length
pub length-flat : {A B : Type 0} (f : A → List B) (k : ℕ) → ((x : A) → length (f x) ≡ k) → (xs : List A) → length (flat_map f xs) ≡ length xs * k
length-flat f k same xs = length-flat_map f xs ∙ sum-same (λ x. length (f x)) k xs (each-every (λ x. length (f x) ≡ k) xs same)

pub get-flat : {A B : Type 0} (f : A → List B) (k : ℕ) → ((x : A) → length (f x) ≡ k) → (xs : List A) (a r : ℕ) (x : A) (y : B) →
    slice_get xs a ≡ Some x → slice_get (f x) r ≡ Some y → slice_get (flat_map f xs) (a * k + r) ≡ Some y
get-flat f k same [] a r x y there within = let wrong : None ≡ Some x = there in absurd (cc)
get-flat {A} {B} f k same (z ∷ zs) zero r x y there within =
    let is : Some z ≡ Some x = there in
    let e : z ≡ x = cc in
    let first : zero * k + r ≡ r = omega arith in
    ap (slice_get (f z ++ flat_map f zs)) first
    ∙ get_in_front (f z) (flat_map f zs) r y (ap (λ (w : A). slice_get (f w) r) e ∙ within)
get-flat f k same (z ∷ zs) (suc a) r x y there within =
    let long = same z in
    let e : suc a * k + r ≡ length (f z) + (a * k + r) = omega (arith, long) in
    ap (slice_get (f z ++ flat_map f zs)) e ∙ get-behind (f z) (flat_map f zs) (a * k + r) ∙ get-flat f k same zs a r x y there within

-- how many of them pass
pub count-flat : {A B : Type 0} (p : B → Bool) (f : A → List B) (xs : List A) → count_by p (flat_map f xs) ≡ sum_by (λ x. count_by p (f x)) xs
count-flat p f [] = refl
count-flat p f (x ∷ xs) =
    sum_by-append _ (f x) (flat_map f xs)
    ∙ ap (λ n. count_by p (f x) + n) (count-flat p f xs)
    ∙ sym (sum_by-cons (λ y. count_by p (f y)) x xs)
