-- How many bits the mask of a ring has.
use Rattle.std.proofs.Common.{◌≡◌, ℕ, ◌+◌, Bool, true, false, cond, ◌&&◌, List, ◌∷◌, [], refl, sym, ◌∙◌, ap, if◌then◌else◌, count_by, count_ones}
use Rattle.std.specs.Prelude.{nat_eq}
use Rattle.std.proofs.lemmas.Bool.{eqb-true, and_parts}
use Rattle.std.proofs.lemmas.List.Sums.{sum_by-cons}
use Rattle.hive_model.specs.declared.places.Dir.{Dir}
use Rattle.hive_model.specs.declared.places.Dir.TheVariants.{E, NE, NW, W, SW, SE}
use Rattle.hive_model.specs.Places.{dirs}
use Rattle.hive_model.specs.Neighbours.{ring_mask}

every : (Bool → Bool) → Bool
every t = t true && t false

every_at : (t : Bool → Bool) → every t ≡ true → (b : Bool) → t b ≡ true
unfolding every
every_at t h true = (and_parts _ _ h).0
every_at t h false = (and_parts _ _ h).1

abbrev mask_of : Bool → Bool → Bool → Bool → Bool → Bool → ℕ
mask_of a b c d e f = (if a then 1 else 0) + (if b then 2 else 0) + (if c then 4 else 0) + (if d then 8 else 0) + (if e then 16 else 0) + (if f then 32 else 0)

abbrev bit : Bool → ℕ
bit t = cond t 1 0

abbrev sum_of : Bool → Bool → Bool → Bool → Bool → Bool → ℕ
sum_of a b c d e f = bit a + (bit b + (bit c + (bit d + (bit e + (bit f + 0)))))

sums : Bool → Bool → Bool → Bool → Bool → Bool → Bool
sums a b c d e f = nat_eq (count_ones (mask_of a b c d e f)) (sum_of a b c d e f)

sums_all : every (λ a. every (λ b. every (λ c. every (λ d. every (λ e. every (λ f. sums a b c d e f)))))) ≡ true
unfolding every sums lib.Count.ones
sums_all = refl

sums_at : (a b c d e f : Bool) → count_ones (mask_of a b c d e f) ≡ sum_of a b c d e f
unfolding sums
sums_at a b c d e f =
    let one = every_at (λ a. every (λ b. every (λ c. every (λ d. every (λ e. every (λ f. sums a b c d e f)))))) sums_all a in
    let two = every_at (λ b. every (λ c. every (λ d. every (λ e. every (λ f. sums a b c d e f))))) one b in
    let three = every_at (λ c. every (λ d. every (λ e. every (λ f. sums a b c d e f)))) two c in
    let four = every_at (λ d. every (λ e. every (λ f. sums a b c d e f))) three d in
    let five = every_at (λ e. every (λ f. sums a b c d e f)) four e in
    eqb-true _ _ (every_at (λ f. sums a b c d e f) five f)

count_cons : (r : Dir → Bool) (d : Dir) (ds : List Dir) → count_by r (d ∷ ds) ≡ bit (r d) + count_by r ds
count_cons r d ds = sum_by-cons (λ e. bit (r e)) d ds

-- a mask has as many bits as its ring has directions
pub ones_count : (r : Dir → Bool) → count_ones (ring_mask r) ≡ count_by r dirs
ones_count r =
    let a = count_cons r E (NE ∷ NW ∷ W ∷ SW ∷ SE ∷ []) in
    let b = count_cons r NE (NW ∷ W ∷ SW ∷ SE ∷ []) in
    let c = count_cons r NW (W ∷ SW ∷ SE ∷ []) in
    let d = count_cons r W (SW ∷ SE ∷ []) in
    let e = count_cons r SW (SE ∷ []) in
    let f : count_by r (SE ∷ []) ≡ bit (r SE) + 0 = count_cons r SE [] in
    sums_at (r E) (r NE) (r NW) (r W) (r SW) (r SE)
    ∙ sym (a ∙ ap (λ n. bit (r E) + n) (b ∙ ap (λ n. bit (r NE) + n) (c ∙ ap (λ n. bit (r NW) + n) (d ∙ ap (λ n. bit (r W) + n) (e ∙ ap (λ n. bit (r SW) + n) f)))))
