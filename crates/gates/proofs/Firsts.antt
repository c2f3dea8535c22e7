-- The first direction of a mask, tried at each mask.
use Rattle.std.proofs.Common.{◌≡◌, ◌≢◌, ℕ, zero, suc, ◌-◌, ◌<◌, Bool, true, false, not, ◌&&◌, ◌||◌, List, [], ◌∷◌, refl, sym, ◌∙◌, ap, subst, ◌⊎◌, inl, inr, arith, slice_index_or}
use Rattle.std.specs.Prelude.{IsTrue, if◌then◌else◌, nat_lt, nat_eq, bit_and}
use Rattle.std.specs.List.{list_all}
use Rattle.std.specs.Int.Count.{count_trailing_zeros}
use Rattle.std.proofs.lemmas.Bool.{ltb-true, eqb-true, eq-eqb, and_parts, cases_eq}
use Rattle.hive_model.specs.declared.places.Dir.{Dir}
use Rattle.hive_model.specs.declared.places.Dir.TheVariants.{E, NE, NW, W, SW, SE}
use Rattle.hive_model.specs.Places.{dirs}
use Rattle.hive_model.specs.Neighbours.{weight}
use Rattle.hive_model.proofs.RuleLaws.{all_at, dir_on}
use Rattle.gates.specs.Slides.{has_dir}
use Rattle.gates.proofs.Rings.{bool_eq, same_bool}

-- the place of a mask's lowest bit
abbrev pub lowest : ℕ → ℕ
lowest m = count_trailing_zeros 8 m

abbrev pub first : ℕ → Dir
first m = slice_index_or (E ∷ NE ∷ NW ∷ W ∷ SW ∷ SE ∷ []) (lowest m) E

abbrev pub rest : ℕ → ℕ
rest m = bit_and m (m - 1)

is_same : Dir → Dir → Bool
is_same d e = nat_eq (weight d) (weight e)

-- the direction with a bit
of_weight : ℕ → Dir
of_weight n = if nat_eq n 1 then E else if nat_eq n 2 then NE else if nat_eq n 4 then NW else if nat_eq n 8 then W else if nat_eq n 16 then SW else SE

back : (d : Dir) → of_weight (weight d) ≡ d
unfolding of_weight
back E = refl
back NE = refl
back NW = refl
back W = refl
back SW = refl
back SE = refl

same_weight : (d e : Dir) → is_same d e ≡ true → d ≡ e
unfolding is_same
same_weight d e h = sym (back d) ∙ ap of_weight (eqb-true _ _ h) ∙ back e

-- what holds of every mask with a direction
test : ℕ → Bool
test m = nat_lt (lowest m) 6 && (has_dir m (first m) && (not (has_dir (rest m) (first m))
    && list_all (λ d. is_same d (first m) || bool_eq (has_dir (rest m) d) (has_dir m d)) dirs))

-- all numbers from 1 to n
below : (ℕ → Bool) → ℕ → Bool
below t zero = true
below t (suc n) = t (suc n) && below t n

below_at : (t : ℕ → Bool) (n m : ℕ) → below t n ≡ true → 0 < m → m < suc n → t m ≡ true
unfolding below
below_at t zero m h some low = absurd (omega (arith, some, low))
below_at t (suc n) m h some low = elim (cases_eq m (suc n)) [
  | inl same ↦ subst (λ (k : ℕ). t k ≡ true) (sym same) (and_parts _ _ h).0
  | inr other ↦ let less : m < suc n = omega (arith, low, other) in below_at t n m (and_parts _ _ h).1 some less
]

all_masks : below test 63 ≡ true
unfolding below test is_same count_trailing_zeros
all_masks = refl

tested : (m : ℕ) → 0 < m → m < 64 → test m ≡ true
tested m some few = below_at test 63 m all_masks some few

pub first_low : (m : ℕ) → 0 < m → m < 64 → lowest m < 6
unfolding test
first_low m some few = ltb-true _ _ (and_parts _ _ (tested m some few)).0

pub first_has : (m : ℕ) → 0 < m → m < 64 → IsTrue (has_dir m (first m))
unfolding test
first_has m some few = (and_parts _ _ (and_parts _ _ (tested m some few)).1).0

negated : (t : Bool) → not t ≡ true → t ≡ false
negated true h = sym h
negated false h = refl

pub first_gone : (m : ℕ) → 0 < m → m < 64 → has_dir (rest m) (first m) ≡ false
unfolding test
first_gone m some few = negated _ (and_parts _ _ (and_parts _ _ (and_parts _ _ (tested m some few)).1).1).0

or_right : (s t : Bool) → (s || t) ≡ true → (s ≡ true → ⊥) → t ≡ true
or_right true t h unset = absurd (unset refl)
or_right false t h unset = h

pub first_others : (m : ℕ) → 0 < m → m < 64 → (d : Dir) → d ≢ first m → has_dir (rest m) d ≡ has_dir m d
unfolding test
first_others m some few d other =
    let low_part = (and_parts (nat_lt (lowest m) 6) _ (tested m some few)).1 in
    let has_part = (and_parts (has_dir m (first m)) _ low_part).1 in
    let all = (and_parts (not (has_dir (rest m) (first m))) _ has_part).1 in
    let here = all_at (λ d. is_same d (first m) || bool_eq (has_dir (rest m) d) (has_dir m d)) dirs d all (dir_on d) in
    same_bool _ _ (or_right _ _ here (λ same. other (same_weight d (first m) same)))

same_is : (d e : Dir) → d ≡ e → is_same d e ≡ true
unfolding is_same
same_is d e same = eq-eqb _ _ (ap weight same)

pub cases_dir : (d e : Dir) → (d ≡ e) ⊎ (d ≢ e)
cases_dir d e = elim (is_same d e) as (λ t. is_same d e ≡ t → (d ≡ e) ⊎ (d ≢ e)) [
  | true ↦ λ h. inl (same_weight d e h)
  | false ↦ λ h. inr (λ same. let wrong : false ≡ true = sym h ∙ same_is d e same in cc)
] refl
