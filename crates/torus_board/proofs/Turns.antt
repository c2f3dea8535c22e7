-- A mask of which one bit is turned, and the way back from a neighbour.
use Rattle.std.proofs.Common.{◌≡◌, ◌≢◌, ℕ, ◌+◌, ◌*◌, Bool, true, false, not, ◌&&◌, refl, sym, ◌∙◌, ap, subst, arith, bit_and, bit_xor, if◌then◌else◌}
use Rattle.std.specs.Prelude.{ℤ, pos, negsuc, ◌+ℤ◌, nat_eq}
use Rattle.std.specs.List.{list_all}
use Rattle.std.specs.Int.Bits.{xor_add_and}
use Rattle.std.proofs.lemmas.Bool.{and_parts, eqb-true}
use Rattle.std.proofs.lemmas.Int.{ints}
use Rattle.hive_model.specs.declared.places.Place.{Place}
use Rattle.hive_model.specs.declared.places.Dir.{Dir}
use Rattle.hive_model.specs.declared.places.Dir.TheVariants.{E, NE, NW, W, SW, SE}
use Rattle.hive_model.specs.Places.{dirs, step}
use Rattle.hive_model.specs.Neighbours.{bit_of, ring_mask, weight}
use Rattle.hive_model.proofs.RuleLaws.{all_at, dir_on}
use Rattle.hive_model.proofs.LiftedMasks.{mask_without}

-- Each ring, tried

every : (Bool → Bool) → Bool
every t = t true && t false

every_at : (t : Bool → Bool) → every t ≡ true → (b : Bool) → t b ≡ true
unfolding every
every_at t h true = (and_parts _ _ h).0
every_at t h false = (and_parts _ _ h).1

-- the ring of six answers
abbrev six : Bool → Bool → Bool → Bool → Bool → Bool → Dir → Bool
six a b c d e f E = a
six a b c d e f NE = b
six a b c d e f NW = c
six a b c d e f W = d
six a b c d e f SW = e
six a b c d e f SE = f

six_is : (r : Dir → Bool) → six (r E) (r NE) (r NW) (r W) (r SW) (r SE) ≡ r
six_is r = λ i d. at d i
  where
    at : (d : Dir) → six (r E) (r NE) (r NW) (r W) (r SW) (r SE) d ≡ r d
    at E = refl
    at NE = refl
    at NW = refl
    at W = refl
    at SW = refl
    at SE = refl

ring_at : (t : (Dir → Bool) → Bool) → every (λ a. every (λ b. every (λ c. every (λ d. every (λ e. every (λ f. t (six a b c d e f))))))) ≡ true → (r : Dir → Bool) → t r ≡ true
ring_at t h r =
    let one = every_at (λ a. every (λ b. every (λ c. every (λ d. every (λ e. every (λ f. t (six a b c d e f))))))) h (r E) in
    let two = every_at (λ b. every (λ c. every (λ d. every (λ e. every (λ f. t (six (r E) b c d e f)))))) one (r NE) in
    let three = every_at (λ c. every (λ d. every (λ e. every (λ f. t (six (r E) (r NE) c d e f))))) two (r NW) in
    let four = every_at (λ d. every (λ e. every (λ f. t (six (r E) (r NE) (r NW) d e f)))) three (r W) in
    let five = every_at (λ e. every (λ f. t (six (r E) (r NE) (r NW) (r W) e f))) four (r SW) in
    let all = every_at (λ f. t (six (r E) (r NE) (r NW) (r W) (r SW) f)) five (r SE) in
    subst (λ s. t s ≡ true) (six_is r) all

-- Bits

bit_test : (Dir → Bool) → Bool
bit_test r = list_all (λ d. nat_eq (bit_and (ring_mask r) (weight d)) (bit_of r d)) dirs

bit_all : every (λ a. every (λ b. every (λ c. every (λ d. every (λ e. every (λ f. bit_test (six a b c d e f))))))) ≡ true
unfolding every bit_test
bit_all = refl

-- a mask has the bits of its directions
bit_in : (r : Dir → Bool) (d : Dir) → bit_and (ring_mask r) (weight d) ≡ bit_of r d
unfolding bit_test
bit_in r d = eqb-true _ _ (all_at (λ d. nat_eq (bit_and (ring_mask r) (weight d)) (bit_of r d)) dirs d (ring_at bit_test bit_all r) (dir_on d))

-- one bit of a mask is turned
pub mask_turned : (r s : Dir → Bool) (d : Dir) → s d ≡ not (r d) → ((e : Dir) → e ≢ d → s e ≡ r e) → bit_xor (ring_mask r) (weight d) ≡ ring_mask s
mask_turned r s d here others = elim (r d) as (λ t. r d ≡ t → bit_xor (ring_mask r) (weight d) ≡ ring_mask s) [
  | true ↦ λ on.
      let less = mask_without r s d on (here ∙ ap not on) others in
      let bit : bit_and (ring_mask r) (weight d) ≡ weight d = bit_in r d ∙ ap (λ (t : Bool). if t then weight d else 0) on in
      let sum = xor_add_and (ring_mask r) (weight d) in
      by_less _ _ _ _ _ less bit sum
  | false ↦ λ off.
      let more = mask_without s r d (here ∙ ap not off) off (λ e other. sym (others e other)) in
      let bit : bit_and (ring_mask r) (weight d) ≡ 0 = bit_in r d ∙ ap (λ (t : Bool). if t then weight d else 0) off in
      let sum = xor_add_and (ring_mask r) (weight d) in
      by_more _ _ _ _ _ more bit sum
] refl
  where
    by_less : (x a w m l : ℕ) → l + w ≡ m → a ≡ w → x + a * 2 ≡ m + w → x ≡ l
    by_less x a w m l less bit sum = omega (arith, less, bit, sum)

    by_more : (x a w m l : ℕ) → m + w ≡ l → a ≡ 0 → x + a * 2 ≡ m + w → x ≡ l
    by_more x a w m l more bit sum = omega (arith, more, bit, sum)

-- Ways back

-- the direction that leads back
abbrev pub facing : Dir → Dir
facing E = W
facing NE = SW
facing NW = SE
facing W = E
facing SW = NE
facing SE = NW

pub step_back : (p : Place) (d : Dir) → step (step p d) (facing d) ≡ p
step_back p d = at d
  where
    undone : (x a b : ℤ) → a +ℤ b ≡ pos 0 → (x +ℤ a) +ℤ b ≡ x
    undone x a b e = omega (arith, ints)

    by : (a b c d : ℤ) → a +ℤ c ≡ pos 0 → b +ℤ d ≡ pos 0 → record { q = (p.q +ℤ a) +ℤ c; r = (p.r +ℤ b) +ℤ d } ≡ p
    by a b c d e f = λ i. record { q = undone p.q a c e i; r = undone p.r b d f i }

    at : (d : Dir) → step (step p d) (facing d) ≡ p
    at E = by (pos 1) (pos 0) (negsuc 0) (pos 0) refl refl
    at NE = by (pos 1) (negsuc 0) (negsuc 0) (pos 1) refl refl
    at NW = by (pos 0) (negsuc 0) (pos 0) (pos 1) refl refl
    at W = by (negsuc 0) (pos 0) (pos 1) (pos 0) refl refl
    at SW = by (negsuc 0) (pos 1) (pos 1) (negsuc 0) refl refl
    at SE = by (pos 0) (pos 1) (pos 0) (negsuc 0) refl refl
