-- Sums over lists.
use Rattle.std.proofs.Common.{◌≡◌, ℕ, ◌+◌, ◌*◌, Bool, true, false, cond, List, [], ◌∷◌, length, refl, sym, ap, arith, ◌∙◌}
use Rattle.std.specs.List.{sum_by, count_by}
use Rattle.std.proofs.lemmas.List.Sums.{sum_by-cons}
use Rattle.tournament_core.specs.Ends.{Each}

pub sum-zero : {A : Type 0} (xs : List A) → sum_by (λ x. 0) xs ≡ 0
sum-zero [] = refl
sum-zero (x ∷ xs) = let first = sum_by-cons (λ y. 0) x xs in let rest = sum-zero xs in omega (arith, first, rest)

pub sum-plus : {A : Type 0} (f g : A → ℕ) (xs : List A) → sum_by f xs + sum_by g xs ≡ sum_by (λ x. f x + g x) xs
sum-plus f g [] = refl
sum-plus f g (x ∷ xs) =
    let a = sum_by-cons f x xs in
    let b = sum_by-cons g x xs in
    let c = sum_by-cons (λ y. f y + g y) x xs in
    let rest = sum-plus f g xs in
    omega (arith, a, b, c, rest)

-- a sum of sums in either order
pub sum-swap : {A B : Type 0} (f : A → B → ℕ) (xs : List A) (ys : List B) → sum_by (λ a. sum_by (f a) ys) xs ≡ sum_by (λ b. sum_by (λ a. f a b) xs) ys
sum-swap f [] ys = sym (sum-zero ys)
sum-swap f (x ∷ xs) ys =
    let more : (b : _) → sum_by (λ a. f a b) (x ∷ xs) ≡ f x b + sum_by (λ a. f a b) xs = λ b. sum_by-cons (λ a. f a b) x xs in
    sum_by-cons (λ a. sum_by (f a) ys) x xs
    ∙ ap (λ n. sum_by (f x) ys + n) (sum-swap f xs ys)
    ∙ sum-plus (f x) (λ b. sum_by (λ a. f a b) xs) ys
    ∙ sym (λ i. sum_by (λ b. more b i) ys)

-- sums of equal terms
pub sum-each : {A : Type 0} (f g : A → ℕ) (xs : List A) → Each (λ x. f x ≡ g x) xs → sum_by f xs ≡ sum_by g xs
sum-each f g [] each = refl
sum-each f g (x ∷ xs) each =
    let a = sum_by-cons f x xs in
    let b = sum_by-cons g x xs in
    let rest = sum-each f g xs each.1 in
    let first = each.0 in
    omega (arith, a, b, rest, first)

times-more : (n k : ℕ) → (n + 1) * k ≡ k + n * k
times-more n k = omega arith

pub sum-same : {A : Type 0} (f : A → ℕ) (k : ℕ) (xs : List A) → Each (λ x. f x ≡ k) xs → sum_by f xs ≡ length xs * k
sum-same f k [] each = omega arith
sum-same f k (x ∷ xs) each =
    let rest = sum-same f k xs each.1 in
    let more : (length xs + 1) * k ≡ k + length xs * k = times-more (length xs) k in
    sum_by-cons f x xs ∙ ap (λ n. n + sum_by f xs) each.0 ∙ ap (λ n. k + n) rest ∙ sym more ∙ ap (λ n. n * k) (omega arith)

plus-times : (a b k : ℕ) → (a + b) * k ≡ a * k + b * k
plus-times a b k = omega arith

cond-times : (t : Bool) (k : ℕ) → cond t 1 0 * k ≡ cond t k 0
cond-times true k = omega arith
cond-times false k = omega arith

-- a number times a count is the sum of that number for each
pub count-times : {A : Type 0} (p : A → Bool) (k : ℕ) (xs : List A) → count_by p xs * k ≡ sum_by (λ x. cond (p x) k 0) xs
count-times p k [] = omega arith
count-times p k (x ∷ xs) =
    ap (λ n. n * k) (sum_by-cons (λ y. cond (p y) 1 0) x xs)
    ∙ plus-times (cond (p x) 1 0) (count_by p xs) k
    ∙ ap (λ n. n + count_by p xs * k) (cond-times (p x) k)
    ∙ ap (λ n. cond (p x) k 0 + n) (count-times p k xs)
    ∙ sym (sum_by-cons (λ y. cond (p y) k 0) x xs)
