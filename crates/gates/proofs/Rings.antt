-- What holds of every ring of neighbours, tried at each.
use Rattle.std.proofs.Common.{◌≡◌, ℕ, zero, suc, ◌<◌, Bool, true, false, not, ◌&&◌, List, [], ◌∷◌, refl, sym, ◌∙◌, ap, subst, get_or}
use Rattle.std.specs.Prelude.{nat_lt}
use Rattle.std.specs.List.{list_all}
use Rattle.std.proofs.lemmas.Bool.{ltb-true, and_parts}
use Rattle.hive_model.specs.declared.places.Dir.{Dir}
use Rattle.hive_model.specs.declared.places.Dir.TheVariants.{E, NE, NW, W, SW, SE}
use Rattle.hive_model.specs.Places.{dirs}
use Rattle.hive_model.specs.Neighbours.{ring_mask}
use Rattle.hive_model.proofs.RuleLaws.{all_at, dir_on}
use Rattle.gates.specs.Slides.{has_dir, slides}

every : (Bool → Bool) → Bool
every t = t true && t false

every_at : (t : Bool → Bool) → every t ≡ true → (b : Bool) → t b ≡ true
unfolding every
every_at t h true = (and_parts _ _ h).0
every_at t h false = (and_parts _ _ h).1

-- the ring of six answers
abbrev six : Bool → Bool → Bool → Bool → Bool → Bool → Dir → Bool
six a b c d e f E = a
six a b c d e f NE = b
six a b c d e f NW = c
six a b c d e f W = d
six a b c d e f SW = e
six a b c d e f SE = f

six_is : (r : Dir → Bool) → six (r E) (r NE) (r NW) (r W) (r SW) (r SE) ≡ r
six_is r = λ i d. at d i
  where
    at : (d : Dir) → six (r E) (r NE) (r NW) (r W) (r SW) (r SE) d ≡ r d
    at E = refl
    at NE = refl
    at NW = refl
    at W = refl
    at SW = refl
    at SE = refl

abbrev every_ring : ((Dir → Bool) → Bool) → Bool
every_ring t = every (λ a. every (λ b. every (λ c. every (λ d. every (λ e. every (λ f. t (six a b c d e f)))))))

ring_at : (t : (Dir → Bool) → Bool) → every_ring t ≡ true → (r : Dir → Bool) → t r ≡ true
ring_at t h r =
    let one = every_at (λ a. every (λ b. every (λ c. every (λ d. every (λ e. every (λ f. t (six a b c d e f))))))) h (r E) in
    let two = every_at (λ b. every (λ c. every (λ d. every (λ e. every (λ f. t (six (r E) b c d e f)))))) one (r NE) in
    let three = every_at (λ c. every (λ d. every (λ e. every (λ f. t (six (r E) (r NE) c d e f))))) two (r NW) in
    let four = every_at (λ d. every (λ e. every (λ f. t (six (r E) (r NE) (r NW) d e f)))) three (r W) in
    let five = every_at (λ e. every (λ f. t (six (r E) (r NE) (r NW) (r W) e f))) four (r SW) in
    let all = every_at (λ f. t (six (r E) (r NE) (r NW) (r W) (r SW) f)) five (r SE) in
    subst (λ s. t s ≡ true) (six_is r) all

abbrev pub bool_eq : Bool → Bool → Bool
bool_eq true b = b
bool_eq false b = not b

pub same_bool : (a b : Bool) → bool_eq a b ≡ true → a ≡ b
same_bool true true h = refl
same_bool true false h = sym h
same_bool false true h = h
same_bool false false h = refl

-- the directions of ground steps from an empty place, by the mask of its occupied neighbours
abbrev pub rows : List ℕ
rows = 0 ∷ 34 ∷ 5 ∷ 36 ∷ 10 ∷ 40 ∷ 9 ∷ 40 ∷ 20 ∷ 54 ∷ 17 ∷ 48 ∷ 18 ∷ 48 ∷ 17 ∷ 48 ∷ 40 ∷ 10 ∷ 45 ∷ 12 ∷ 34 ∷ 0 ∷ 33 ∷ 0 ∷ 36 ∷ 6 ∷ 33 ∷ 0 ∷ 34 ∷ 0 ∷ 33 ∷ 0 ∷ 17 ∷ 18 ∷ 20 ∷ 20 ∷ 27 ∷ 24 ∷ 24 ∷ 24 ∷ 5 ∷ 6 ∷ 0 ∷ 0 ∷ 3 ∷ 0 ∷ 0 ∷ 0 ∷ 9 ∷ 10 ∷ 12 ∷ 12 ∷ 3 ∷ 0 ∷ 0 ∷ 0 ∷ 5 ∷ 6 ∷ 0 ∷ 0 ∷ 3 ∷ 0 ∷ 0 ∷ 0 ∷ []

row_test : (Dir → Bool) → Bool
row_test r = list_all (λ d. bool_eq (has_dir (get_or rows (ring_mask r) 0) d) (slides r d)) dirs

row_all : every_ring row_test ≡ true
unfolding every row_test
row_all = refl

pub row_slides : (mask : ℕ) (r : Dir → Bool) → mask ≡ ring_mask r → (d : Dir) → has_dir (get_or rows mask 0) d ≡ slides r d
unfolding row_test
row_slides mask r is d =
    ap (λ (m : ℕ). has_dir (get_or rows m 0) d) is
    ∙ same_bool _ _ (all_at (λ d. bool_eq (has_dir (get_or rows (ring_mask r) 0) d) (slides r d)) dirs d (ring_at row_test row_all r) (dir_on d))

all_low : (xs : List ℕ) → list_all (λ x. nat_lt x 64) xs ≡ true → (k : ℕ) → nat_lt (get_or xs k 0) 64 ≡ true
all_low [] h k = refl
all_low (x ∷ xs) h zero = (and_parts _ _ h).0
all_low (x ∷ xs) h (suc k) = all_low xs (and_parts _ _ h).1 k

pub row_low : (mask : ℕ) → get_or rows mask 0 < 64
row_low mask = ltb-true _ _ (all_low rows refl mask)

-- the mask of a ring has the bits of the directions in the ring, and no others

bit_test : (Dir → Bool) → Bool
bit_test r = list_all (λ d. bool_eq (has_dir (ring_mask r) d) (r d)) dirs

bit_all : every_ring bit_test ≡ true
unfolding every bit_test
bit_all = refl

pub ring_has : (mask : ℕ) (r : Dir → Bool) → mask ≡ ring_mask r → (d : Dir) → has_dir mask d ≡ r d
unfolding bit_test
ring_has mask r is d =
    ap (λ (m : ℕ). has_dir m d) is
    ∙ same_bool _ _ (all_at (λ d. bool_eq (has_dir (ring_mask r) d) (r d)) dirs d (ring_at bit_test bit_all r) (dir_on d))
