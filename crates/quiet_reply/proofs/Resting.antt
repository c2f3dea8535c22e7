-- How the resting piece changes the evaluation of a board, and the evaluation for the other side.
use Rattle.std.proofs.Common.{◌≡◌, ◌≢◌, ℕ, zero, suc, ◌+◌, ◌<◌, ◌≤◌, Bool, true, false, not, ◌&&◌, inl, inr, refl, sym, ◌∙◌, ap, arith, if◌then◌else◌, ℤ, pos, neg_ℤ, ◌+ℤ◌, ◌-ℤ◌, ◌*ℤ◌, ◌≤ℤ◌, sum_by}
use Rattle.std.specs.Prelude.{Some, None, nat_eq}
use Rattle.std.proofs.lemmas.Int.{ints}
use Rattle.std.proofs.lemmas.Bool.{eq-eqb, ne_eqb}
use Rattle.std.proofs.lemmas.List.Sums.{sum_by-cons}
use Rattle.hive_model.specs.declared.pieces.Colour.{Colour}
use Rattle.hive_model.specs.declared.pieces.Colour.TheVariants.{White, Black}
use Rattle.hive_model.specs.Lists.{count_from}
use Rattle.hive_model.specs.Pieces.{kind_of, colour_of, is_colour, other_side, all_pieces}
use Rattle.hive_model.specs.Boards.{Stacks, spot_of}
use Rattle.hive_model.specs.Evaluation.{weight_of, is_uncut_top, counted, free_weight, round_queen, evaluation}
use Rattle.leaf_worth.proofs.SpotsAfter.{cases_number}

-- Sums of two functions that differ at one number alone

module _ (f h : ℕ → ℕ) (z : ℕ) (same : (y : ℕ) → y ≢ z → f y ≡ h y) where
  sum_past : (n first : ℕ) → z < first → sum_by f (count_from first n) ≡ sum_by h (count_from first n)
  sum_past zero first past = refl
  sum_past (suc n) first past =
      let a = sum_by-cons f first (count_from (first + 1) n) in
      let b = sum_by-cons h first (count_from (first + 1) n) in
      let here = same first (λ e. omega (arith, past, e)) in
      let rest = sum_past n (first + 1) (omega (arith, past)) in
      omega (arith, a, b, here, rest)

  sum_more : (n first : ℕ) → sum_by h (count_from first n) ≤ sum_by f (count_from first n) + h z
  sum_more zero first = omega arith
  sum_more (suc n) first =
      let a = sum_by-cons f first (count_from (first + 1) n) in
      let b = sum_by-cons h first (count_from (first + 1) n) in
      elim (cases_number first z) [
        | inl e ↦
            let rest = sum_past n (first + 1) (omega (arith, e)) in
            let hz : h first ≡ h z = ap h e in
            omega (arith, a, b, rest, hz)
        | inr other ↦
            let here = same first other in
            let rest = sum_more n (first + 1) in
            omega (arith, a, b, here, rest)
      ]

module _ (f h : ℕ → ℕ) (less : (y : ℕ) → f y ≤ h y) where
  sum_less : (n first : ℕ) → sum_by f (count_from first n) ≤ sum_by h (count_from first n)
  sum_less zero first = omega arith
  sum_less (suc n) first =
      let a = sum_by-cons f first (count_from (first + 1) n) in
      let b = sum_by-cons h first (count_from (first + 1) n) in
      let here = less first in
      let rest = sum_less n (first + 1) in
      omega (arith, a, b, here, rest)

-- The weight of one piece

no_and : (t : Bool) → (t && false) ≡ false
no_and true = refl
no_and false = refl

at_most : (t : Bool) (n : ℕ) → (if t then n else 0) ≤ n
at_most true n = omega arith
at_most false n = omega arith

abbrev weighed : Colour → ℕ → Bool → ℕ
weighed s y t = if is_colour (colour_of y) s && t then weight_of (kind_of y) else 0

module _ (b : Stacks) (x : ℕ) where
  counted_same : (c : Colour) (y : ℕ) → y ≢ x → counted b (Some x) c y ≡ counted b None c y
  counted_same c y other = ap (λ t. weighed c y (not t && is_uncut_top b (spot_of b y))) (ne_eqb y x other)

  counted_none : (c : Colour) → counted b (Some x) c x ≡ 0
  counted_none c = ap (λ t. weighed c x (not t && is_uncut_top b (spot_of b x))) (eq-eqb x x refl) ∙ ap (λ (t : Bool). if t then weight_of (kind_of x) else 0) (no_and (is_colour (colour_of x) c))

  counted_most : (c : Colour) → counted b None c x ≤ weight_of (kind_of x)
  counted_most c = at_most (is_colour (colour_of x) c && is_uncut_top b (spot_of b x)) (weight_of (kind_of x))

  counted_less : (c : Colour) (y : ℕ) → counted b (Some x) c y ≤ counted b None c y
  counted_less c y = elim (cases_number y x) [
    | inl same ↦ let none : counted b (Some x) c y ≡ 0 = ap (counted b (Some x) c) same ∙ counted_none c in omega (arith, none)
    | inr other ↦ let e = counted_same c y other in omega (arith, e)
  ]

  free_less : (c : Colour) → free_weight b (Some x) c ≤ free_weight b None c
  free_less c = sum_less (counted b (Some x) c) (counted b None c) (counted_less c) 28 0

  free_more : (c : Colour) → free_weight b None c ≤ free_weight b (Some x) c + weight_of (kind_of x)
  free_more c =
      let sum = sum_more (counted b (Some x) c) (counted b None c) x (counted_same c) 28 0 in
      let most = counted_most c in
      omega (arith, sum, most)

  -- a board is worth less to a side by at most the weight of the piece, once it no longer rests
  pub rest_most : (s : Colour) → evaluation b (Some x) s ≤ℤ (evaluation b None s +ℤ pos (weight_of (kind_of x)))
  unfolding evaluation
  rest_most s =
      go (pos 40 *ℤ (pos (round_queen b (other_side s)) -ℤ pos (round_queen b s))) (free_weight b (Some x) s) (free_weight b None s)
      (free_weight b (Some x) (other_side s)) (free_weight b None (other_side s)) (weight_of (kind_of x)) (free_less s) (free_more (other_side s))
    where
      go : (r : ℤ) (a c d e w : ℕ) → a ≤ c → e ≤ d + w → (r +ℤ (pos a -ℤ pos d)) ≤ℤ ((r +ℤ (pos c -ℤ pos e)) +ℤ pos w)
      go r a c d e w low high = omega (arith, ints, low, high)

-- the evaluation for one side is the negative of that for the other
pub other_worth : (b : Stacks) (s : Colour) → evaluation b None (other_side s) ≡ neg_ℤ (evaluation b None s)
unfolding evaluation
other_worth b White = go (round_queen b White) (round_queen b Black) (free_weight b None White) (free_weight b None Black)
  where
    go : (m n v w : ℕ) → (pos 40 *ℤ (pos m -ℤ pos n) +ℤ (pos w -ℤ pos v)) ≡ neg_ℤ (pos 40 *ℤ (pos n -ℤ pos m) +ℤ (pos v -ℤ pos w))
    go m n v w = omega (arith, ints)
other_worth b Black = go (round_queen b Black) (round_queen b White) (free_weight b None Black) (free_weight b None White)
  where
    go : (m n v w : ℕ) → (pos 40 *ℤ (pos m -ℤ pos n) +ℤ (pos w -ℤ pos v)) ≡ neg_ℤ (pos 40 *ℤ (pos n -ℤ pos m) +ℤ (pos v -ℤ pos w))
    go m n v w = omega (arith, ints)
