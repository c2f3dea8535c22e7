-- What many pieces weigh, by counts of bits.
use Rattle.std.proofs.Common.{◌≡◌, ◌≢◌, ℕ, suc, zero, ◌+◌, ◌*◌, ◌^◌, ◌%◌, ◌<◌, ◌≤◌, Bool, true, false, cond, not, ◌&&◌, List, [], ◌∷◌, refl, sym, ◌∙◌, ap, ap₂, subst, arith, if◌then◌else◌, min, sum_by, count_by, count_ones, bit_and, w32}
use Rattle.std.specs.Prelude.{Option, Some, None, nat_eq}
use Rattle.std.specs.Int.{bit_at, bit_not}
use Rattle.std.proofs.lemmas.Bool.{eqb-true, eq-eqb}
use Rattle.std.proofs.lemmas.Nat.{and_le_l, and_le_r}
use Rattle.std.proofs.lemmas.Nat.Bits.{bit_at_and, bit_at-lt, bit_at_clear_same, bit_at_clear_other}
use Rattle.std.proofs.lemmas.List.Sums.{sum_by-cons}
use Rattle.hive_model.specs.declared.pieces.Colour.{Colour}
use Rattle.hive_model.specs.declared.pieces.Kind.{Kind}
use Rattle.hive_model.specs.declared.pieces.Kind.TheVariants.{Queen, Spider, Beetle, Grasshopper, Ant, Mosquito, Ladybug, Pillbug}
use Rattle.hive_model.specs.Lists.{count_from}
use Rattle.hive_model.specs.Pieces.{kind_of, colour_of, is_colour, all_pieces, mask_of_pieces}
use Rattle.hive_model.specs.Boards.{Stacks}
use Rattle.hive_model.specs.Evaluation.{weight_of, is_free_piece, free_pieces, free_weight}
use Rattle.hive_model.proofs.PieceMasks.{mask_at, mask_below, mask_from, mask_both, mask_ones}
use Rattle.hive_eval.specs.Weights.{weight_of_pieces}
use Rattle.hive_eval.proofs.SmallLaws.{weight-few, sum-few}

-- the piece weighs so much
abbrev pub weighs : ℕ → ℕ → Bool
weighs w x = nat_eq (weight_of (kind_of x)) w

-- the bit of a piece is set
abbrev is_set : ℕ → ℕ → Bool
is_set n x = nat_eq (bit_at n x) 1

bit_is : (d : ℕ) → d < 2 → d ≡ cond (nat_eq d 1) 1 0
bit_is zero low = refl
bit_is (suc zero) low = refl
bit_is (suc (suc d)) low = absurd (omega (arith, low))

both_set : (d : ℕ) → d < 2 → (t : Bool) → min d (cond t 1 0) ≡ cond (nat_eq d 1 && t) 1 0
both_set zero low true = refl
both_set zero low false = refl
both_set (suc zero) low true = refl
both_set (suc zero) low false = refl
both_set (suc (suc d)) low t = absurd (omega (arith, low))

-- the pieces among those of a mask whose bits are set
set_among : (n : ℕ) (q : ℕ → Bool) → bit_and n (mask_of_pieces q) ≡ mask_of_pieces (λ x. is_set n x && q x)
set_among n q =
    let most = and_le_r n (mask_of_pieces q) in
    let below = mask_below q in
    mask_from (bit_and n (mask_of_pieces q)) (λ x. is_set n x && q x) (let small : bit_and n (mask_of_pieces q) < 2 ^ 28 = omega (arith, most, below) in small)
    (λ x h. bit_at_and n (mask_of_pieces q) x ∙ ap (min (bit_at n x)) (mask_at q x h) ∙ both_set (bit_at n x) (bit_at-lt n x) (q x))

count_set : (n : ℕ) (q : ℕ → Bool) (k : ℕ) → k ≡ mask_of_pieces q → count_ones (bit_and n k) ≡ count_by (λ x. is_set n x && q x) all_pieces
count_set n q k is = ap (λ (m : ℕ). count_ones (bit_and n m)) is ∙ ap count_ones (set_among n q) ∙ mask_ones (λ x. is_set n x && q x)

-- the masks of the program
pub four : 114695 ≡ mask_of_pieces (weighs 4)
unfolding mask_of_pieces
four = refl

pub six : 3670240 ≡ mask_of_pieces (weighs 6)
unfolding mask_of_pieces
six = refl

pub eight : 201732120 ≡ mask_of_pieces (weighs 8)
unfolding mask_of_pieces
eight = refl

pub ten : 62918400 ≡ mask_of_pieces (weighs 10)
unfolding mask_of_pieces
ten = refl

weight_split : (t : Bool) (k : Kind) → (if t then weight_of k else 0)
    ≡ 4 * cond (t && nat_eq (weight_of k) 4) 1 0 + 6 * cond (t && nat_eq (weight_of k) 6) 1 0 + 8 * cond (t && nat_eq (weight_of k) 8) 1 0 + 10 * cond (t && nat_eq (weight_of k) 10) 1 0
weight_split false k = refl
weight_split true Queen = refl
weight_split true Spider = refl
weight_split true Beetle = refl
weight_split true Grasshopper = refl
weight_split true Ant = refl
weight_split true Mosquito = refl
weight_split true Ladybug = refl
weight_split true Pillbug = refl

-- a sum of weights by counts of pieces
split_sum : (t : ℕ → Bool) (xs : List ℕ) → sum_by (λ x. if t x then weight_of (kind_of x) else 0) xs
    ≡ 4 * count_by (λ x. t x && weighs 4 x) xs + 6 * count_by (λ x. t x && weighs 6 x) xs + 8 * count_by (λ x. t x && weighs 8 x) xs + 10 * count_by (λ x. t x && weighs 10 x) xs
split_sum t [] = refl
split_sum t (x ∷ xs) =
    let whole = sum_by-cons (λ x. if t x then weight_of (kind_of x) else 0) x xs in
    let a = sum_by-cons (λ x. cond (t x && weighs 4 x) 1 0) x xs in
    let b = sum_by-cons (λ x. cond (t x && weighs 6 x) 1 0) x xs in
    let c = sum_by-cons (λ x. cond (t x && weighs 8 x) 1 0) x xs in
    let d = sum_by-cons (λ x. cond (t x && weighs 10 x) 1 0) x xs in
    added _ _ _ _ _ _ _ _ _ _ _ _ _ _ _ whole a b c d (weight_split (t x) (kind_of x)) (split_sum t xs)
  where
    added : (s s0 s1 a a0 a1 b b0 b1 c c0 c1 d d0 d1 : ℕ) → s ≡ s0 + s1 → a ≡ a0 + a1 → b ≡ b0 + b1 → c ≡ c0 + c1 → d ≡ d0 + d1
        → s0 ≡ 4 * a0 + 6 * b0 + 8 * c0 + 10 * d0 → s1 ≡ 4 * a1 + 6 * b1 + 8 * c1 + 10 * d1 → s ≡ 4 * a + 6 * b + 8 * c + 10 * d
    added s s0 s1 a a0 a1 b b0 b1 c c0 c1 d d0 d1 = λ e ea eb ec ed here rest. omega (arith, e, ea, eb, ec, ed, here, rest)

pub weight-by_counts : (n : ℕ) → 4 * count_ones (bit_and n 114695) + 6 * count_ones (bit_and n 3670240) + 8 * count_ones (bit_and n 201732120) + 10 * count_ones (bit_and n 62918400) ≡ weight_of_pieces n
unfolding weight_of_pieces
weight-by_counts n =
    let a = count_set n (weighs 4) 114695 four in
    let b = count_set n (weighs 6) 3670240 six in
    let c = count_set n (weighs 8) 201732120 eight in
    let d = count_set n (weighs 10) 62918400 ten in
    (λ i. 4 * a i + 6 * b i + 8 * c i + 10 * d i) ∙ sym (split_sum (is_set n) all_pieces)

pub weight_of_pieces-few : (n : ℕ) → weight_of_pieces n ≤ 280
unfolding weight_of_pieces
weight_of_pieces-few n = sum-few (λ x. if is_set n x then weight_of (kind_of x) else 0) (λ x. few (is_set n x) (kind_of x)) 28
  where
    few : (t : Bool) (k : Kind) → (if t then weight_of k else 0) ≤ 10
    few true k = weight-few k
    few false k = omega arith

-- Where the bits are those of the pieces that pass a test

sum_same : (f g : ℕ → ℕ) (n first : ℕ) → ((x : ℕ) → x < first + n → f x ≡ g x) → sum_by f (count_from first n) ≡ sum_by g (count_from first n)
sum_same f g zero first h = refl
sum_same f g (suc n) first h =
    let low : first < first + suc n = omega arith in
    sum_by-cons f first (count_from (first + 1) n)
    ∙ ap₂ (λ (a b : ℕ). a + b) (h first low) (sum_same f g n (first + 1) (λ x l. let m : x < first + suc n = omega (arith, l) in h x m))
    ∙ sym (sum_by-cons g first (count_from (first + 1) n))

is_one : (t : Bool) → nat_eq (cond t 1 0) 1 ≡ t
is_one true = refl
is_one false = refl

pub weight-of_mask : (p : ℕ → Bool) → weight_of_pieces (mask_of_pieces p) ≡ sum_by (λ x. if p x then weight_of (kind_of x) else 0) all_pieces
unfolding weight_of_pieces
weight-of_mask p =
    sum_same (λ x. if is_set (mask_of_pieces p) x then weight_of (kind_of x) else 0) (λ x. if p x then weight_of (kind_of x) else 0) 28 0
    (λ x h. let low : x < 28 = omega (arith, h) in ap (λ (t : Bool). if t then weight_of (kind_of x) else 0) (ap (λ (d : ℕ). nat_eq d 1) (mask_at p x low) ∙ is_one (p x)))

pub weight-of_free : (b : Stacks) (rest : Option ℕ) (side : Colour) (free own : ℕ) → free ≡ free_pieces b rest → own ≡ mask_of_pieces (λ x. is_colour (colour_of x) side)
    → weight_of_pieces (bit_and own free) ≡ free_weight b rest side
weight-of_free b rest side free own free_is own_is =
    ap weight_of_pieces (ap₂ bit_and own_is free_is ∙ mask_both (λ x. is_colour (colour_of x) side) (is_free_piece b rest))
    ∙ weight-of_mask (λ x. is_colour (colour_of x) side && is_free_piece b rest x)

-- The piece that rests

pub free_but : (b : Stacks) (free r y : ℕ) → free ≡ free_pieces b None → y < 28 → y ≡ r → bit_and free (bit_not w32 (1 * 2 ^ y % 2 ^ 32)) ≡ free_pieces b (Some r)
free_but b free r y is low same =
    subst (λ (z : ℕ). bit_and free (bit_not w32 (1 * 2 ^ y % 2 ^ 32)) ≡ free_pieces b (Some z)) same
    (mask_from (bit_and free (bit_not w32 (1 * 2 ^ y % 2 ^ 32))) (is_free_piece b (Some y)) small bits)
  where
    wide : y < 32
    wide = omega (arith, low)

    small : bit_and free (bit_not w32 (1 * 2 ^ y % 2 ^ 32)) < 2 ^ 28
    small =
        let less = and_le_l free (bit_not w32 (1 * 2 ^ y % 2 ^ 32)) in
        let below = subst (λ (n : ℕ). n < 2 ^ 28) (sym is) (mask_below (is_free_piece b None)) in
        omega (arith, less, below)

    bits : (x : ℕ) → x < 28 → bit_at (bit_and free (bit_not w32 (1 * 2 ^ y % 2 ^ 32))) x ≡ cond (is_free_piece b (Some y) x) 1 0
    bits x h = elim (nat_eq x y) as (λ (t : Bool). nat_eq x y ≡ t → bit_at (bit_and free (bit_not w32 (1 * 2 ^ y % 2 ^ 32))) x ≡ cond (not t && is_free_piece b None x) 1 0) [
      | true ↦ λ e. ap (bit_at (bit_and free (bit_not w32 (1 * 2 ^ y % 2 ^ 32)))) (eqb-true x y e) ∙ bit_at_clear_same w32 free y wide
      | false ↦ λ e.
          let apart : x ≢ y = (λ s. let yes : nat_eq x y ≡ true = subst (λ (z : ℕ). nat_eq x z ≡ true) s (eq-eqb x x refl) in let wrong : true ≡ false = sym yes ∙ e in cc) in
          let in_wide : x < 32 = omega (arith, h) in
          bit_at_clear_other w32 free y wide x in_wide apart ∙ ap (λ (n : ℕ). bit_at n x) is ∙ mask_at (is_free_piece b None) x h
    ] refl
