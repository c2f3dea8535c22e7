-- The mask of a place's neighbours on a board without a piece that is on top.
use Rattle.std.proofs.Common.{◌≡◌, ◌≢◌, ℕ, ◌+◌, ◌<◌, Bool, true, false, inl, inr, sym, ◌∙◌, ap, arith, if◌then◌else◌}
use Rattle.std.specs.Prelude.{nat_lt}
use Rattle.std.proofs.lemmas.Bool.{lt-ltb}
use Rattle.hive_model.specs.declared.places.Place.{Place}
use Rattle.hive_model.specs.declared.places.Dir.{Dir}
use Rattle.hive_model.specs.declared.places.Dir.TheVariants.{E, NE, NW, W, SW, SE}
use Rattle.hive_model.specs.Places.{step}
use Rattle.hive_model.specs.Boards.{Stacks, height_at, is_occupied, lift, StandsAt, IsBoard}
use Rattle.hive_model.specs.Neighbours.{ring, ring_mask, bit_of, weight}
use Rattle.hive_model.proofs.PlaceLemmas.{cases_place, is_other_place}
use Rattle.hive_model.proofs.LiftLemmas.{height_here, height_there}
use Rattle.hive_model.proofs.RuleLaws.{step_once}

-- Masks

pub same_mask : (r s : Dir → Bool) → ((d : Dir) → r d ≡ s d) → ring_mask r ≡ ring_mask s
same_mask r s same = ap ring_mask (λ i d. same d i)

bit_on : (r : Dir → Bool) (d : Dir) → r d ≡ true → bit_of r d ≡ weight d
bit_on r d on = ap (λ (t : Bool). if t then weight d else 0) on

bit_off : (r : Dir → Bool) (d : Dir) → r d ≡ false → bit_of r d ≡ 0
bit_off r d off = ap (λ (t : Bool). if t then weight d else 0) off

bit_same : (r s : Dir → Bool) (d : Dir) → r d ≡ s d → bit_of r d ≡ bit_of s d
bit_same r s d same = ap (λ (t : Bool). if t then weight d else 0) same

-- without one direction a mask is less by its bit
pub mask_without : (r s : Dir → Bool) (d : Dir) → r d ≡ true → s d ≡ false → ((e : Dir) → e ≢ d → s e ≡ r e) → ring_mask s + weight d ≡ ring_mask r
mask_without r s d on off others = at d on off others
  where
    at : (d : Dir) → r d ≡ true → s d ≡ false → ((e : Dir) → e ≢ d → s e ≡ r e) → ring_mask s + weight d ≡ ring_mask r
    at E on off others =
        let one = bit_on r E on in
        let none = bit_off s E off in
        let b = bit_same s r NE (others NE (λ e. cc)) in
        let c = bit_same s r NW (others NW (λ e. cc)) in
        let d = bit_same s r W (others W (λ e. cc)) in
        let e = bit_same s r SW (others SW (λ e. cc)) in
        let f = bit_same s r SE (others SE (λ e. cc)) in
        omega (arith, one, none, b, c, d, e, f)
    at NE on off others =
        let one = bit_on r NE on in
        let none = bit_off s NE off in
        let b = bit_same s r E (others E (λ e. cc)) in
        let c = bit_same s r NW (others NW (λ e. cc)) in
        let d = bit_same s r W (others W (λ e. cc)) in
        let e = bit_same s r SW (others SW (λ e. cc)) in
        let f = bit_same s r SE (others SE (λ e. cc)) in
        omega (arith, one, none, b, c, d, e, f)
    at NW on off others =
        let one = bit_on r NW on in
        let none = bit_off s NW off in
        let b = bit_same s r E (others E (λ e. cc)) in
        let c = bit_same s r NE (others NE (λ e. cc)) in
        let d = bit_same s r W (others W (λ e. cc)) in
        let e = bit_same s r SW (others SW (λ e. cc)) in
        let f = bit_same s r SE (others SE (λ e. cc)) in
        omega (arith, one, none, b, c, d, e, f)
    at W on off others =
        let one = bit_on r W on in
        let none = bit_off s W off in
        let b = bit_same s r E (others E (λ e. cc)) in
        let c = bit_same s r NE (others NE (λ e. cc)) in
        let d = bit_same s r NW (others NW (λ e. cc)) in
        let e = bit_same s r SW (others SW (λ e. cc)) in
        let f = bit_same s r SE (others SE (λ e. cc)) in
        omega (arith, one, none, b, c, d, e, f)
    at SW on off others =
        let one = bit_on r SW on in
        let none = bit_off s SW off in
        let b = bit_same s r E (others E (λ e. cc)) in
        let c = bit_same s r NE (others NE (λ e. cc)) in
        let d = bit_same s r NW (others NW (λ e. cc)) in
        let e = bit_same s r W (others W (λ e. cc)) in
        let f = bit_same s r SE (others SE (λ e. cc)) in
        omega (arith, one, none, b, c, d, e, f)
    at SE on off others =
        let one = bit_on r SE on in
        let none = bit_off s SE off in
        let b = bit_same s r E (others E (λ e. cc)) in
        let c = bit_same s r NE (others NE (λ e. cc)) in
        let d = bit_same s r NW (others NW (λ e. cc)) in
        let e = bit_same s r W (others W (λ e. cc)) in
        let f = bit_same s r SW (others SW (λ e. cc)) in
        omega (arith, one, none, b, c, d, e, f)

-- The board without the piece

module _ (b : Stacks) (is : IsBoard b) (x : ℕ) (p : Place) (level : ℕ) (stands : StandsAt b x p level) (top : height_at b p ≡ level + 1) where
  occupied_there : (q : Place) → q ≢ p → is_occupied (lift b x) q ≡ is_occupied b q
  occupied_there q other = ap (nat_lt 0) (height_there b is x p level stands top q (is_other_place q p other))

  occupied_here : is_occupied (lift b x) p ≡ nat_lt 0 level
  occupied_here = ap (nat_lt 0) (height_here b is x p level stands top)

  was_occupied : is_occupied b p ≡ true
  was_occupied = lt-ltb 0 (height_at b p) (omega (arith, top))

  -- something is left there
  pub mask_above : 0 < level → (place : Place) → ring_mask (ring (is_occupied b) place) ≡ ring_mask (ring (is_occupied (lift b x)) place)
  mask_above some place = same_mask (ring (is_occupied b) place) (ring (is_occupied (lift b x)) place) (λ d. elim (cases_place (step place d) p) [
    | inl here ↦ ap (is_occupied b) here ∙ was_occupied ∙ sym (ap (is_occupied (lift b x)) here ∙ occupied_here ∙ lt-ltb 0 level some)
    | inr other ↦ sym (occupied_there (step place d) other)
  ])

  -- the place is no neighbour
  pub mask_apart : (place : Place) → ((d : Dir) → step place d ≢ p) → ring_mask (ring (is_occupied b) place) ≡ ring_mask (ring (is_occupied (lift b x)) place)
  mask_apart place apart = same_mask (ring (is_occupied b) place) (ring (is_occupied (lift b x)) place) (λ d. sym (occupied_there (step place d) (apart d)))

  -- nothing is left there
  pub mask_less : level ≡ 0 → (place : Place) (d : Dir) → step place d ≡ p → ring_mask (ring (is_occupied (lift b x)) place) + weight d ≡ ring_mask (ring (is_occupied b) place)
  mask_less none place d here =
      mask_without (ring (is_occupied b) place) (ring (is_occupied (lift b x)) place) d (ap (is_occupied b) here ∙ was_occupied)
      (ap (is_occupied (lift b x)) here ∙ occupied_here ∙ ap (nat_lt 0) none)
      (λ e other. occupied_there (step place e) (λ same. other (step_once place e d (same ∙ sym here))))
