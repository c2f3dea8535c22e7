-- Euler's number of a board, and what one piece more or less changes of it.
use Rattle.std.proofs.Common.{◌≡◌, ℕ, zero, suc, ◌+◌, ◌*◌, ◌<◌, ◌≤◌, Bool, true, false, List, [], ◌∷◌, length, sym, ◌∙◌, ap, subst, arith, bit_and, ℤ, pos, negsuc, ◌+ℤ◌, ◌-ℤ◌, ◌≤ℤ◌, FitsSigned, to_z, of_z, w32, if◌then◌else◌}
use Rattle.std.specs.Prelude.{Option, Some, None, nat_eq}
use Rattle.std.proofs.lemmas.Int.{ints}
use Rattle.hive_model.specs.declared.places.Place.{Place}
use Rattle.hive_model.specs.declared.places.Spot.{Spot}
use Rattle.hive_model.specs.Places.{step}
use Rattle.hive_model.specs.Boards.{Stacks, height_at, is_occupied, spot_of, put, IsBoard}
use Rattle.hive_model.specs.Neighbours.{ring, ring_mask}
use Rattle.hive_model.proofs.ReachLaws.{step_moves}
use Rattle.arcs.specs.Masks.{arcs, how_many, is_first, six}
use Rattle.arcs.proofs.ArcBoards.{IsRaised, raised_put, same_else}
use Rattle.euler.specs.Euler.{euler_number, arcs_at}
use Rattle.euler.specs.Counting.{counted, worth}
use Rattle.euler.proofs.EulerBoards.{law_put, law_put_on}
use Rattle.euler.proofs.Numbers.{number_below, number_first, number_next, number_all}

-- Euler's number of a board is no large number

some_of : {X : Type 0} (t : X → Bool) (xs : List X) → how_many t xs ≤ length xs
some_of t [] = omega arith
some_of t (x ∷ xs) = elim (t x) as (λ s. (if s then 1 else 0) + how_many t xs ≤ length (x ∷ xs)) [
  | true ↦ let rest = some_of t xs in omega (arith, rest)
  | false ↦ let rest = some_of t xs in omega (arith, rest)
]

few_counted : (b : Stacks) (o : Option Spot) → (negsuc 4 ≤ℤ counted b o) × (counted b o ≤ℤ pos 1)
few_counted b None = (omega (arith, ints), omega (arith, ints))
few_counted b (Some s) = elim (nat_eq s.level 0) as (λ t. (negsuc 4 ≤ℤ (if t then worth (ring_mask (ring (is_occupied b) s.place)) else pos 0)) × ((if t then worth (ring_mask (ring (is_occupied b) s.place)) else pos 0) ≤ℤ pos 1)) [
  | true ↦ few (ring_mask (ring (is_occupied b) s.place))
  | false ↦ (omega (arith, ints), omega (arith, ints))
]
  where
    few : (m : ℕ) → (negsuc 4 ≤ℤ worth m) × (worth m ≤ℤ pos 1)
    few m = let some = some_of (is_first (bit_and m 7)) six in omega (arith, ints, some)

abbrev IsFew : ℕ → ℤ → Type 0
IsFew n z = (pos 0 ≤ℤ (z +ℤ pos (5 * n))) × (z ≤ℤ pos n)

one_more : (n : ℕ) (z c w : ℤ) → IsFew n z → (negsuc 4 ≤ℤ c) × (c ≤ℤ pos 1) → w ≡ z +ℤ c → IsFew (n + 1) w
one_more n z c w few one next =
    let low = few.0 in
    let high = few.1 in
    let least = one.0 in
    let most = one.1 in
    (omega (arith, ints, next, low, least), omega (arith, ints, next, high, most))

module _ (b : Stacks) (is : IsBoard b) where
  few_below : (n : ℕ) → IsFew n (number_below b is n)
  few_below zero = let first = number_first b is in (omega (arith, ints, first), omega (arith, ints, first))
  few_below (suc n) =
      let e : n + 1 ≡ suc n = omega arith in
      subst (λ k. IsFew k (number_below b is k)) e (one_more n (number_below b is n) (counted b (spot_of b n)) (number_below b is (n + 1)) (few_below n) (few_counted b (spot_of b n)) (number_next b is n))

  pub low_number : negsuc 139 ≤ℤ euler_number b
  low_number = let h = (few_below 28).0 in let all = number_all b is in omega (arith, ints, h, all)

  pub high_number : euler_number b ≤ℤ pos 28
  high_number = let h = (few_below 28).1 in let all = number_all b is in omega (arith, ints, h, all)

-- What one piece more changes, and so, read backwards, one piece less

module _ (b c : Stacks) (x : ℕ) (p : Place) (made : c ≡ put b x p) where
  raised : IsRaised b c p
  raised = subst (λ d. IsRaised b d p) (sym made) (raised_put b x p)

  -- Euler's number, which was or is n

  module _ (is : IsBoard b) where
    same_number : 0 < height_at b p → euler_number c ≡ euler_number b
    same_number some = ap euler_number made ∙ law_put_on b is x p some

    more_number : height_at b p ≡ 0 → euler_number c ≡ (euler_number b +ℤ pos 1) -ℤ pos (arcs_at b p)
    more_number empty = ap euler_number made ∙ law_put b is x p empty

    same_round : height_at b p ≡ 0 → arcs_at c p ≡ arcs_at b p
    same_round empty = λ i. arcs (ring_mask (λ d. same_else b c p raised empty (step p d) (step_moves p d) i))

    pub put_above : (n : ℤ) → n ≡ euler_number b → 1 < height_at c p → to_z w32 (of_z w32 n) ≡ euler_number c
    put_above n was high =
        let h = raised.here in
        let same = same_number (omega (arith, h, high)) in
        let low = low_number b is in
        let most = high_number b is in
        omega (arith, ints, was, same, low, most)

    pub taken_above : (n : ℤ) → n ≡ euler_number c → 0 < height_at b p → to_z w32 (of_z w32 n) ≡ euler_number b
    taken_above n was some =
        let same = same_number some in
        let low = low_number b is in
        let most = high_number b is in
        omega (arith, ints, was, same, low, most)

    -- and a is what the place adds

    module _ (n a : ℤ) (least : negsuc 253 ≤ℤ a) (most : a ≤ℤ pos 1) where
      pub put_alone : n ≡ euler_number b → height_at c p ≤ 1 → a ≡ pos 1 -ℤ pos (arcs_at c p) → to_z w32 (of_z w32 (to_z w32 (of_z w32 n) +ℤ to_z w32 (of_z w32 a))) ≡ euler_number c
      put_alone was low adds =
          let h = raised.here in
          let empty : height_at b p ≡ 0 = omega (arith, h, low) in
          let law = more_number empty in
          let round = same_round empty in
          let lower = low_number b is in
          let upper = high_number b is in
          omega (arith, ints, law, round, was, adds, least, most, lower, upper)

      pub taken_alone : n ≡ euler_number c → height_at b p ≤ 0 → a ≡ pos 1 -ℤ pos (arcs_at b p) → to_z w32 (of_z w32 (to_z w32 (of_z w32 n) -ℤ to_z w32 (of_z w32 a))) ≡ euler_number b
      taken_alone was low adds =
          let law = more_number (omega (arith, low)) in
          let lower = low_number b is in
          let upper = high_number b is in
          omega (arith, ints, law, was, adds, least, most, lower, upper)

-- neither sum is too large
module _ (b : Stacks) (is : IsBoard b) (n a : ℤ) (was : n ≡ euler_number b) (least : negsuc 253 ≤ℤ a) (most : a ≤ℤ pos 1) where
  pub sum_fits : FitsSigned w32 (to_z w32 (of_z w32 n) +ℤ to_z w32 (of_z w32 a))
  sum_fits = let lower = low_number b is in let upper = high_number b is in omega (arith, ints, was, least, most, lower, upper)

  pub difference_fits : FitsSigned w32 (to_z w32 (of_z w32 n) -ℤ to_z w32 (of_z w32 a))
  difference_fits = let lower = low_number b is in let upper = high_number b is in omega (arith, ints, was, least, most, lower, upper)
