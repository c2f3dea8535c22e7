-- How many places there are: on a board, and next to it.
use Rattle.std.proofs.Common.{◌≡◌, ◌↔◌, ℕ, ◌*◌, ◌≤◌, ◌<◌, true, false, List, [], ◌∷◌, ◌++◌, length, length-append, ◌⊎◌, inl, inr, refl, sym, ◌∙◌, ap, subst, arith}
use Rattle.std.specs.Prelude.{Option, slice_get, unwrap_or, map, IsTrue}
use Rattle.std.specs.List.{flat_map}
use Rattle.std.proofs.lemmas.Bool.{and_parts}
use Rattle.std.specs.FinMap.Entries.{is_sorted, below_all}
use Rattle.std.specs.Ordering.{is_lt}
use Rattle.std.specs.declared.cmp.Ordering.{Ordering}
use Rattle.std.specs.declared.cmp.Ordering.TheVariants.{Less, Equal, Greater}
use Rattle.std.specs.Cmp.{IsTotalOrder}
use Rattle.hive_model.specs.declared.places.Place.{Place}
use Rattle.hive_model.specs.Lists.{IsOn, Rises}
use Rattle.hive_model.specs.Pieces.{all_pieces}
use Rattle.hive_model.specs.Places.{place_cmp, is_place, step, dirs, neighbours, origin, AreNeighbours}
use Rattle.hive_model.specs.Boards.{Stacks, stack_at, is_occupied, places_of, StandsAt, IsBoard}
use Rattle.hive_model.specs.Near.{near}
use Rattle.hive_model.specs.Hive.{on_list}
use Rattle.hive_model.proofs.PlaceLemmas.{places_total, same_place, is_place_itself}
use Rattle.hive_model.proofs.Floods.{on_append, append_left, append_right}
use Rattle.hive_model.proofs.Orders.{not_on_rising}
use Rattle.hive_model.proofs.RuleLaws.{any_has, has_any, on_map, on_flat_map, dir_on}
use Rattle.hive_model.proofs.NearLaws.{map_has, occupied_on, place_standing, rises_in_order, near_is}
use Rattle.hive_model.proofs.PieceLaws.{on_pieces}
use Rattle.hive_model.proofs.SpotLemmas.{length_map}

-- the test of a place on a list
pub listed : (ps : List Place) (q : Place) → IsTrue (on_list ps q) ↔ IsOn ps q
listed ps q = (
  λ e. let r = any_has (λ p. is_place p q) ps e in subst (IsOn ps) (same_place r.0 q r.2) r.1,
  λ on. has_any (λ p. is_place p q) ps q on (is_place_itself q),
)

-- no item is on the list twice
abbrev pub AreDistinct : {X : Type 0} → List X → Type 0
AreDistinct [] = Unit {0}
AreDistinct (x ∷ xs) = (¬ IsOn xs x) × AreDistinct xs

pub rising_distinct : {X : Type 0} {R : X → X → Ordering} (o : IsTotalOrder R) (xs : List X) → Rises R xs → AreDistinct xs
rising_distinct o [] h = tt
rising_distinct o (x ∷ xs) h = (λ on. not_on_rising o x xs h on, rising_distinct o xs h.1)

split_at_item : {X : Type 0} (ys : List X) (x : X) → IsOn ys x → (left : List X) × (right : List X) × (ys ≡ left ++ x ∷ right)
split_at_item [] x on = absurd on
split_at_item (y ∷ ys) x on = elim on [
  | inl same ↦ ([], ys, (λ i. same i ∷ ys))
  | inr later ↦ let r = split_at_item ys x later in (y ∷ r.0, r.1, ap (λ zs. y ∷ zs) r.2)
]

-- distinct items that are all on another list are at most as many as it has
pub distinct_short : {X : Type 0} (xs ys : List X) → AreDistinct xs → ((x : X) → IsOn xs x → IsOn ys x) → length xs ≤ length ys
distinct_short [] ys h there = omega arith
distinct_short {X} (x ∷ xs) ys h there =
    let (left, right, is) = split_at_item ys x (there x (inl refl)) in
    let others : (z : X) → IsOn xs z → IsOn (left ++ right) z = λ z on.
    elim (on_append left (x ∷ right) z (subst (λ zs. IsOn zs z) is (there z (inr on)))) [
      | inl here ↦ append_left left right z here
      | inr more ↦ elim more [
        | inl same ↦ absurd (h.0 (subst (IsOn xs) (sym same) on))
        | inr after ↦ append_right left right z after
      ]
    ] in
    let rest = distinct_short xs (left ++ right) h.1 others in
    let all = ap length is ∙ length-append left (x ∷ right) in
    let some = length-append left right in
    omega (arith, rest, all, some)

-- the same for a list in strict order
pub rising_short : {X : Type 0} {R : X → X → Ordering} (o : IsTotalOrder R) (xs ys : List X) → Rises R xs → ((x : X) → IsOn xs x → IsOn ys x) → length xs ≤ length ys
rising_short o xs ys h there = distinct_short xs ys (rising_distinct o xs h) there

-- The places of a board

below_on : (x : Place) (b : Stacks) → below_all place_cmp x b ≡ true → (y : Place) → IsOn (places_of b) y → place_cmp x y ≡ Less
below_on x [] h y on = absurd on
below_on x (e ∷ es) h y on =
    let both = and_parts (is_lt (place_cmp x e.0)) (below_all place_cmp x es) h in
    elim on [
      | inl same ↦ ap (place_cmp x) (sym same) ∙ less (place_cmp x e.0) both.0
      | inr later ↦ below_on x es both.1 y later
    ]
  where
    less : (o : Ordering) → is_lt o ≡ true → o ≡ Less
    less Less k = refl
    less Equal k = let wrong : false ≡ true = k in absurd (cc)
    less Greater k = let wrong : false ≡ true = k in absurd (cc)

pub places_rise : (b : Stacks) → IsTrue (is_sorted place_cmp b) → Rises place_cmp (places_of b)
places_rise [] h = tt
places_rise (e ∷ es) h =
    let both = and_parts (below_all place_cmp e.0 es) (is_sorted place_cmp es) h in
    (below_on e.0 es both.0, places_rise es both.1)

-- the piece on the ground of a place
abbrev ground : Stacks → Place → ℕ
ground b p = unwrap_or (slice_get (stack_at b p) 0) 0

ground_stands : (b : Stacks) → IsBoard b → (p : Place) → IsOn (places_of b) p → StandsAt b (ground b p) p 0
ground_stands b is p on =
    let r = place_standing b is.stacks p on in
    subst (λ (x : ℕ). StandsAt b x p 0) (sym (ap (λ (o : Option ℕ). unwrap_or o 0) r.1)) r.1

grounds_distinct : (b : Stacks) → IsBoard b → (ps : List Place) → ((p : Place) → IsOn ps p → IsOn (places_of b) p) → AreDistinct ps → AreDistinct (map (ground b) ps)
grounds_distinct b is [] sub h = tt
grounds_distinct b is (p ∷ ps) sub h = (
  λ on.
      let r = map_has (ground b) ps (ground b p) on in
      let here = ground_stands b is p (sub p (inl refl)) in
      let there = subst (λ (x : ℕ). StandsAt b x r.0 0) r.2 (ground_stands b is r.0 (sub r.0 (inr r.1))) in
      h.0 (subst (IsOn ps) (is.once (ground b p) r.0 p 0 0 there here).0 r.1),
  grounds_distinct b is ps (λ q on. sub q (inr on)) h.1,
)

-- a board has at most 28 occupied places
pub places_few : (b : Stacks) → IsBoard b → length (places_of b) ≤ 28
places_few b is =
    let distinct = grounds_distinct b is (places_of b) (λ _ on. on) (rising_distinct places_total (places_of b) (places_rise b is.in_order)) in
    let short = distinct_short (map (ground b) (places_of b)) all_pieces distinct (λ x on.
    let r = map_has (ground b) (places_of b) x on in
    on_pieces x (subst (λ (z : ℕ). z < 28) r.2 (is.pieces r.0 0 (ground b r.0) (ground_stands b is r.0 r.1)))) in
    subst (λ (n : ℕ). n ≤ 28) (length_map (ground b) (places_of b)) short

-- a place and its neighbours
abbrev around : Place → List Place
around p = p ∷ neighbours p

length_around : (ps : List Place) → length (flat_map around ps) ≡ length ps * 7
length_around [] = refl
length_around (p ∷ ps) =
    let one = length-append (around p) (flat_map around ps) in
    let rest = length_around ps in
    omega (arith, one, rest)

around_on : (b : Stacks) (q : Place) → ((p : Place) × IsTrue (is_occupied b p) × ((q ≡ p) ⊎ AreNeighbours p q)) → IsOn (flat_map around (places_of b)) q
around_on b q (p, taken, close) = on_flat_map around (places_of b) p q (occupied_on b p taken) (elim close [
  | inl same ↦ inl (sym same)
  | inr (d, leads) ↦ inr (subst (IsOn (neighbours p)) leads (on_map (step p) dirs d (dir_on d)))
])

-- at most 196 places are occupied or touch an occupied one
pub touched_few : (b : Stacks) → IsBoard b → (qs : List Place) → Rises place_cmp qs
    → ((q : Place) → IsOn qs q → (p : Place) × IsTrue (is_occupied b p) × ((q ≡ p) ⊎ AreNeighbours p q)) → length qs ≤ 196
touched_few b is qs rise touched =
    let short = rising_short places_total qs (flat_map around (places_of b)) rise (λ q on. around_on b q (touched q on)) in
    let many = length_around (places_of b) in
    let few = places_few b is in
    omega (arith, short, many, few)

-- with the origin there are at most 197 near places
pub near_few : (b : Stacks) → IsBoard b → length (near b) ≤ 197
near_few b is =
    let short = rising_short places_total (near b) (origin ∷ flat_map around (places_of b)) (rises_in_order (origin ∷ places_of b ++ flat_map neighbours (places_of b)))
    (λ q on. elim (near_is b is.stacks q on) [ inl same ↦ inl (sym same) | inr touched ↦ inr (around_on b q touched) ]) in
    let many = length_around (places_of b) in
    let few = places_few b is in
    omega (arith, short, many, few)
