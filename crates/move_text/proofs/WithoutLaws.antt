-- The board without a piece, covered or not.
use Rattle.std.proofs.Common.{◌≡◌, ◌≢◌, ℕ, suc, zero, ◌+◌, ◌-◌, ◌≤◌, ◌<◌, true, false, List, [], ◌∷◌, ◌++◌, length, take, drop, refl, sym, ◌∙◌, ap, subst, arith, ◌⊎◌, inl, inr}
use Rattle.std.specs.Prelude.{Option, Some, None, option_map, slice_get, IsTrue, nat_eq, nat_lt, if◌then◌else◌}
use Rattle.std.specs.List.{remove}
use Rattle.std.specs.FinMap.Entries.{is_sorted}
use Rattle.std.proofs.lemmas.Bool.{ne_eqb, cond-true, cond-false, ltb-true, ltb-false, eqb-true, eqb-false}
use Rattle.std.proofs.Common.{eq-eqb}
use Rattle.hive_model.specs.declared.places.Place.{Place}
use Rattle.hive_model.specs.declared.places.Spot.{Spot}
use Rattle.hive_model.specs.Places.{place_cmp, is_place, IsWithin}
use Rattle.hive_model.specs.Boards.{Stacks, stack_found, stack_at, height_at, top_at, spot_of, under_spot, under_of, set_stack, StandsAt, IsBoard, without, without_at, place_in}
use Rattle.hive_model.proofs.PlaceLemmas.{is_place_itself, cases_place, is_other_place}
use Rattle.hive_model.proofs.GetLemmas.{get_within}
use Rattle.hive_model.proofs.BoardLemmas.{stands_occupied, occupied_stands, spot_of_stands, stands_spot_of, stack_at-set_stack, sorted-set_stack, stacks-set_stack, spot_within}

get_remove_low : {X : Type 0} (xs : List X) (i j : ℕ) → j < i → slice_get (remove xs i) j ≡ slice_get xs j
get_remove_low xs zero j h = absurd (omega (arith, h))
get_remove_low [] (suc i) j h = refl
get_remove_low (x ∷ xs) (suc i) zero h = refl
get_remove_low (x ∷ xs) (suc i) (suc j) h = get_remove_low xs i j (omega (arith, h))

get_remove_high : {X : Type 0} (xs : List X) (i j : ℕ) → i ≤ j → slice_get (remove xs i) j ≡ slice_get xs (suc j)
get_remove_high [] zero j h = refl
get_remove_high [] (suc i) j h = refl
get_remove_high {X = X} (x ∷ xs) zero j h = ap (λ (ys : List X). slice_get (ys) j) (none xs)
  where
    none : (xs : List X) → take 0 (x ∷ xs) ++ drop 1 (x ∷ xs) ≡ xs
    none [] = refl
    none (y ∷ ys) = refl
get_remove_high (x ∷ xs) (suc i) zero h = absurd (omega (arith, h))
get_remove_high (x ∷ xs) (suc i) (suc j) h = get_remove_high xs i j (omega (arith, h))

length_remove : {X : Type 0} (xs : List X) (i : ℕ) → i < length xs → length (remove xs i) + 1 ≡ length xs
length_remove [] i h = absurd (omega (arith, h))
length_remove (x ∷ []) zero h = refl
length_remove (x ∷ y ∷ ys) zero h = let all : length ys + 1 + 1 ≡ suc (suc (length ys)) = omega arith in let one : suc (length ys) + 1 ≡ suc (suc (length ys)) = omega arith in one
length_remove (x ∷ xs) (suc i) h = let less : i < length xs = omega (arith, h) in let r = length_remove xs i less in omega (arith, r)

module _ (b : Stacks) (is : IsBoard b) (x : ℕ) (p : Place) (level : ℕ) (stands : StandsAt b x p level) where
  without_is : without b x ≡ set_stack b p (remove (stack_at b p) level)
  without_is = ap (without_at b) (stands_spot_of b is x p level stands)

  pub stack_there : (q : Place) → q ≢ p → stack_at (without b x) q ≡ stack_at b q
  stack_there q e = ap (λ (c : Stacks). stack_at c q) without_is ∙ stack_at-set_stack b p (remove (stack_at b p) level) q ∙ cond-false (is_place q p) _ (stack_at b q) (is_other_place q p e)

  stack_here : stack_at (without b x) p ≡ remove (stack_at b p) level
  stack_here = ap (λ (c : Stacks). stack_at c p) without_is ∙ stack_at-set_stack b p (remove (stack_at b p) level) p ∙ cond-true (is_place p p) (remove (stack_at b p) level) (stack_at b p) (is_place_itself p)

  -- the old place of a level of the board without the piece
  abbrev WasAt : Place → ℕ → ℕ → Type 0
  WasAt q j i = ((q ≢ p) × (i ≡ j)) ⊎ (((q ≡ p) × (j < level) × (i ≡ j)) ⊎ ((q ≡ p) × (level ≤ j) × (i ≡ suc j)))

  came_from : (q : Place) (j : ℕ) → (i : ℕ) × (slice_get (stack_at (without b x) q) j ≡ slice_get (stack_at b q) i) × WasAt q j i
  came_from q j = elim (cases_place q p) [
    | inr e ↦ (j, ap (λ xs. slice_get xs j) (stack_there q e), inl (e, refl))
    | inl e ↦
        let here : stack_at (without b x) q ≡ remove (stack_at b p) level = ap (stack_at (without b x)) e ∙ stack_here in
        elim (nat_lt j level) as (λ t. nat_lt j level ≡ t → (i : ℕ) × (slice_get (stack_at (without b x) q) j ≡ slice_get (stack_at b q) i) × WasAt q j i) [
          | true ↦ λ f. let less = ltb-true j level f in
              (j, ap (λ xs. slice_get xs j) here ∙ get_remove_low (stack_at b p) level j less ∙ ap (λ z. slice_get (stack_at b z) j) (sym e), inr (inl (e, less, refl)))
          | false ↦ λ f. let more = ltb-false j level f in
              (suc j, ap (λ xs. slice_get xs j) here ∙ get_remove_high (stack_at b p) level j more ∙ ap (λ z. slice_get (stack_at b z) (suc j)) (sym e), inr (inr (e, more, refl)))
        ] refl
  ]

  was_once : (q r : Place) (j k i l : ℕ) → WasAt q j i → WasAt r k l → q ≡ r → i ≡ l → j ≡ k
  was_once q r j k i l (inl a) (inl c) e f = omega (arith, a.1, c.1, f)
  was_once q r j k i l (inl a) (inr (inl c)) e f = absurd (a.0 (e ∙ c.0))
  was_once q r j k i l (inl a) (inr (inr c)) e f = absurd (a.0 (e ∙ c.0))
  was_once q r j k i l (inr (inl a)) (inl c) e f = absurd (c.0 (sym e ∙ a.0))
  was_once q r j k i l (inr (inr a)) (inl c) e f = absurd (c.0 (sym e ∙ a.0))
  was_once q r j k i l (inr (inl a)) (inr (inl c)) e f = omega (arith, a.2, c.2, f)
  was_once q r j k i l (inr (inl a)) (inr (inr c)) e f = omega (arith, a.1, a.2, c.1, c.2, f)
  was_once q r j k i l (inr (inr a)) (inr (inl c)) e f = omega (arith, a.1, a.2, c.1, c.2, f)
  was_once q r j k i l (inr (inr a)) (inr (inr c)) e f = omega (arith, a.2, c.2, f)

  never_here : (q : Place) (j i : ℕ) → WasAt q j i → q ≡ p → i ≡ level → ⊥
  never_here q j i (inl a) e f = a.0 e
  never_here q j i (inr (inl a)) e f = omega (arith, a.1, a.2, f)
  never_here q j i (inr (inr a)) e f = omega (arith, a.1, a.2, f)

  without_stands : (y : ℕ) (q : Place) (j : ℕ) → StandsAt (without b x) y q j → (i : ℕ) × StandsAt b y q i × WasAt q j i × (y ≢ x)
  without_stands y q j h =
      let from = came_from q j in
      let old : StandsAt b y q from.0 = sym from.1 ∙ h in
      (from.0, old, from.2, λ e. let same = is.once x q p from.0 level (subst (λ z. StandsAt b z q from.0) e old) stands in never_here q j from.0 from.2 same.0 same.1)

  stands_without : (y : ℕ) (q : Place) (i : ℕ) → StandsAt b y q i → y ≢ x → (j : ℕ) × StandsAt (without b x) y q j
  stands_without y q i h other = elim (cases_place q p) [
    | inr e ↦ (i, ap (λ xs. slice_get xs i) (stack_there q e) ∙ h)
    | inl e ↦
        let here : stack_at (without b x) q ≡ remove (stack_at b p) level = ap (stack_at (without b x)) e ∙ stack_here in
        let old : StandsAt b y p i = ap (λ z. slice_get (stack_at b z) i) (sym e) ∙ h in
        elim (nat_lt i level) as (λ t. nat_lt i level ≡ t → (j : ℕ) × StandsAt (without b x) y q j) [
          | true ↦ λ f. let less = ltb-true i level f in (i, ap (λ xs. slice_get xs i) here ∙ get_remove_low (stack_at b p) level i less ∙ old)
          | false ↦ λ f. let more = ltb-false i level f in
              let apart : i ≢ level = (λ g. let two : Some y ≡ Some x = sym old ∙ ap (slice_get (stack_at b p)) g ∙ stands in let one : y ≡ x = cc in other one) in
              let up : level ≤ i - 1 = omega (arith, more, apart) in
              let one : suc (i - 1) ≡ i = omega (arith, more, apart) in
              (i - 1, ap (λ xs. slice_get xs (i - 1)) here ∙ get_remove_high (stack_at b p) level (i - 1) up ∙ ap (slice_get (stack_at b p)) one ∙ old)
        ] refl
  ]

  pub without_is_board : IsBoard (without b x)
  without_is_board = record {
    in_order = subst (λ c. IsTrue (is_sorted place_cmp c)) (sym without_is) (sorted-set_stack b p _ is.in_order);
    stacks = subst (λ (c : Stacks). (q : Place) → stack_found c q ≢ Some []) (sym without_is) (stacks-set_stack b p _ is.stacks);
    pieces = λ q i y h. let old = without_stands y q i h in is.pieces q old.0 y old.1;
    once = λ y q r j k h i.
        let one = without_stands y q j h in
        let two = without_stands y r k i in
        let same = is.once y q r one.0 two.0 one.1 two.1 in
        (same.0, was_once q r j k one.0 two.0 one.2 two.2 same.0 same.1);
    within = λ q h.
        let first = occupied_stands (without b x) q h in
        let old = without_stands first.0 q 0 first.1 in
        is.within q (stands_occupied b first.0 q old.0 old.1);
  }

  place_gone : place_in (without b x) x ≡ None
  place_gone = elim (spot_of (without b x) x) as (λ o. spot_of (without b x) x ≡ o → option_map (λ s. s.place) o ≡ None) [
    | None ↦ λ _. refl
    | Some t ↦ λ e. absurd ((without_stands x t.place t.level (spot_of_stands (without b x) x t e)).3 refl)
  ] refl

  place_kept : (y : ℕ) → y ≢ x → place_in (without b x) y ≡ place_in b y
  place_kept y other = elim (spot_of b y) as (λ o. spot_of b y ≡ o → place_in (without b x) y ≡ option_map (λ s. s.place) o) [
    | None ↦ λ none. elim (spot_of (without b x) y) as (λ o. spot_of (without b x) y ≡ o → option_map (λ s. s.place) o ≡ None) [
      | None ↦ λ _. refl
      | Some t ↦ λ e.
          let old = without_stands y t.place t.level (spot_of_stands (without b x) y t e) in
          let there = stands_spot_of b is y t.place old.0 old.1 in
          let wrong : ◌≡◌ {A = Option Spot} None (Some (record { place = t.place; level = old.0 })) = sym none ∙ there in absurd (cc)
    ] refl
    | Some t ↦ λ e.
        let new = stands_without y t.place t.level (spot_of_stands b y t e) other in
        ap (option_map (λ (s : Spot). s.place)) (stands_spot_of (without b x) without_is_board y t.place new.0 new.1)
  ] refl

pub not_there : (b : Stacks) (x : ℕ) → spot_of b x ≡ None → without b x ≡ b
not_there b x e = ap (without_at b) e

-- a piece's place on the board without another
pub place_in-without : (b : Stacks) → IsBoard b → (x y : ℕ) → place_in (without b x) y ≡ (if nat_eq y x then None else place_in b y)
place_in-without b is x y = elim (spot_of b x) as (λ o. spot_of b x ≡ o → place_in (without b x) y ≡ (if nat_eq y x then None else place_in b y)) [
  | None ↦ λ e. elim (nat_eq y x) as (λ t. nat_eq y x ≡ t → place_in (without b x) y ≡ (if t then None else place_in b y)) [
    | true ↦ λ f. ap (λ c. place_in c y) (not_there b x e) ∙ ap (place_in b) (eqb-true y x f) ∙ ap (option_map (λ (s : Spot). s.place)) e
    | false ↦ λ f. ap (λ c. place_in c y) (not_there b x e)
  ] refl
  | Some s ↦ λ e. let stands = spot_of_stands b x s e in
      elim (nat_eq y x) as (λ t. nat_eq y x ≡ t → place_in (without b x) y ≡ (if t then None else place_in b y)) [
        | true ↦ λ f. ap (place_in (without b x)) (eqb-true y x f) ∙ place_gone b is x s.place s.level stands
        | false ↦ λ f. place_kept b is x s.place s.level stands y (eqb-false y x f)
      ] refl
] refl

pub gone_there : (b : Stacks) → IsBoard b → (x y : ℕ) → y ≡ x → None ≡ place_in (without b x) y
gone_there b is x y e = sym (place_in-without b is x y ∙ ap (λ t. if t then None else place_in b y) (ap (λ z. nat_eq z x) e ∙ eq-eqb x x refl))

pub kept_there : (b : Stacks) → IsBoard b → (x y : ℕ) (o : Option Spot) → y ≢ x → spot_of b y ≡ o → option_map (λ s. s.place) o ≡ place_in (without b x) y
kept_there b is x y o e h = sym (place_in-without b is x y ∙ ap (λ t. if t then None else place_in b y) (ne_eqb y x e) ∙ ap (option_map (λ (s : Spot). s.place)) h)

pub within_some : (b : Stacks) → IsBoard b → (y : ℕ) (s : Spot) → spot_of b y ≡ Some s → (p : Place) → Some s.place ≡ Some p → IsWithin 9000 p
within_some b is y s h p e = let same : s.place ≡ p = cc in subst (IsWithin 9000) same (spot_within b is y s h)

-- The top piece of a place

abbrev pub top_left : Stacks → ℕ → Option ℕ → Option ℕ
top_left b x None = None
top_left b x (Some y) = if nat_eq y x then under_of b x else Some y

last_of_removed : (xs : List ℕ) (level x : ℕ) → slice_get xs level ≡ Some x → suc level < length xs → slice_get (remove xs level) (length (remove xs level) - 1) ≡ slice_get xs (length xs - 1)
last_of_removed xs level x h more =
    let n = length_remove xs level (omega (arith, more)) in
    let high : level ≤ length (remove xs level) - 1 = omega (arith, n, more) in
    let same : suc (length (remove xs level) - 1) ≡ length xs - 1 = omega (arith, n, more) in
    get_remove_high xs level (length (remove xs level) - 1) high ∙ ap (slice_get xs) same

last_of_lowered : (xs : List ℕ) (level x : ℕ) → slice_get xs level ≡ Some x → suc level ≡ length xs → slice_get (remove xs level) (length (remove xs level) - 1) ≡ (if nat_eq level 0 then None else slice_get xs (level - 1))
last_of_lowered xs zero x h last =
    let less : 0 < length xs = omega (arith, last) in
    let n = length_remove xs 0 less in
    let none : length (remove xs 0) ≡ 0 = omega (arith, n, last) in
    nothing (remove xs 0) none
  where
    nothing : (ys : List ℕ) → length ys ≡ 0 → slice_get ys (length ys - 1) ≡ None
    nothing [] e = refl
    nothing (y ∷ ys) e = absurd (omega (arith, e))
last_of_lowered xs (suc level) x h last =
    let less : suc level < length xs = omega (arith, last) in
    let n = length_remove xs (suc level) less in
    let end : length (remove xs (suc level)) - 1 ≡ level = omega (arith, n, last) in
    let one : suc level - 1 ≡ level = omega arith in
    let low : level < suc level = omega arith in
    let some : nat_eq (suc level) 0 ≡ false = ne_eqb (suc level) 0 (omega arith) in
    ap (slice_get (remove xs (suc level))) end ∙ get_remove_low xs (suc level) level low
    ∙ ap (slice_get xs) (sym one) ∙ sym (ap (λ t. if t then None else slice_get xs (suc level - 1)) some)

module _ (b : Stacks) (is : IsBoard b) (x : ℕ) (p : Place) (level : ℕ) (stands : StandsAt b x p level) where
  -- if the top piece is x, it is this place and level
  top_is_here : (q : Place) → top_at b q ≡ Some x → (q ≡ p) × (height_at b q - 1 ≡ level)
  top_is_here q e = is.once x q p (height_at b q - 1) level e stands

  under_is : under_of b x ≡ (if nat_eq level 0 then None else slice_get (stack_at b p) (level - 1))
  under_is = ap (under_spot b) (stands_spot_of b is x p level stands)

  top_kept : (q : Place) → top_at b q ≢ Some x → top_at (without b x) q ≡ top_at b q
  top_kept q other = elim (cases_place q p) [
    | inr e ↦ ap (λ xs. slice_get xs (length xs - 1)) (stack_there b is x p level stands q e)
    | inl e ↦
        let here : stack_at (without b x) q ≡ remove (stack_at b p) level = ap (stack_at (without b x)) e ∙ stack_here b is x p level stands in
        let low = get_within (stack_at b p) level x stands in
        let apart : suc level ≢ length (stack_at b p) = (λ f. let at : length (stack_at b p) - 1 ≡ level = omega (arith, f) in
        other (ap (top_at b) e ∙ ap (slice_get (stack_at b p)) at ∙ stands)) in
        let more : suc level < length (stack_at b p) = omega (arith, low, apart) in
        ap (λ xs. slice_get xs (length xs - 1)) here ∙ last_of_removed (stack_at b p) level x stands more ∙ ap (top_at b) (sym e)
  ]

  top_lowered : (q : Place) → top_at b q ≡ Some x → top_at (without b x) q ≡ under_of b x
  top_lowered q e =
      let same = top_is_here q e in
      let here : stack_at (without b x) q ≡ remove (stack_at b p) level = ap (stack_at (without b x)) same.0 ∙ stack_here b is x p level stands in
      let low = get_within (stack_at b p) level x stands in
      let high : height_at b p - 1 ≡ level = ap (λ z. height_at b z - 1) (sym same.0) ∙ same.1 in
      let last : suc level ≡ length (stack_at b p) = omega (arith, low, high) in
      ap (λ xs. slice_get xs (length xs - 1)) here ∙ last_of_lowered (stack_at b p) level x stands last ∙ sym under_is

pub top_at-without : (b : Stacks) → IsBoard b → (x : ℕ) (q : Place) → top_at (without b x) q ≡ top_left b x (top_at b q)
top_at-without b is x q = elim (spot_of b x) as (λ o. spot_of b x ≡ o → top_at (without b x) q ≡ top_left b x (top_at b q)) [
  | None ↦ λ e. ap (λ c. top_at c q) (not_there b x e) ∙ absent e (top_at b q) refl
  | Some s ↦ λ e. let stands = spot_of_stands b x s e in present s stands (top_at b q) refl
] refl
  where
    absent : spot_of b x ≡ None → (o : Option ℕ) → top_at b q ≡ o → top_at b q ≡ top_left b x o
    absent none None f = f
    absent none (Some y) f = elim (nat_eq y x) as (λ t. nat_eq y x ≡ t → top_at b q ≡ (if t then under_of b x else Some y)) [
      | true ↦ λ g.
          let stands : StandsAt b x q (height_at b q - 1) = f ∙ ap (λ z. Some z) (eqb-true y x g) in
          let wrong : ◌≡◌ {A = Option Spot} None (Some (record { place = q; level = height_at b q - 1 })) = sym none ∙ stands_spot_of b is x q (height_at b q - 1) stands in
          absurd (cc)
      | false ↦ λ g. f
    ] refl

    present : (s : Spot) → StandsAt b x s.place s.level → (o : Option ℕ) → top_at b q ≡ o → top_at (without b x) q ≡ top_left b x o
    present s stands None f = top_kept b is x s.place s.level stands q (λ h. let wrong : ◌≡◌ {A = Option ℕ} None (Some x) = sym f ∙ h in cc) ∙ f
    present s stands (Some y) f = elim (nat_eq y x) as (λ t. nat_eq y x ≡ t → top_at (without b x) q ≡ (if t then under_of b x else Some y)) [
      | true ↦ λ g. top_lowered b is x s.place s.level stands q (f ∙ ap (λ z. Some z) (eqb-true y x g))
      | false ↦ λ g. top_kept b is x s.place s.level stands q (λ h. let two : Some y ≡ Some x = sym f ∙ h in let one : y ≡ x = cc in eqb-false y x g one) ∙ f
    ] refl

-- For the call

pub top_then : (b : Stacks) → IsBoard b → (x : ℕ) (q : Place) (y : ℕ) (r : Option ℕ) → Some y ≡ top_at b q → nat_eq y x ≡ true → r ≡ under_of b x → r ≡ top_at (without b x) q
top_then b is x q y r top e h = h ∙ sym (top_at-without b is x q ∙ ap (top_left b x) (sym top) ∙ ap (λ t. if t then under_of b x else Some y) e)

pub top_else : (b : Stacks) → IsBoard b → (x : ℕ) (q : Place) (y : ℕ) → Some y ≡ top_at b q → nat_eq y x ≡ false → Some y ≡ top_at (without b x) q
top_else b is x q y top e = sym (top_at-without b is x q ∙ ap (top_left b x) (sym top) ∙ ap (λ t. if t then under_of b x else Some y) e)

pub top_none : (b : Stacks) → IsBoard b → (x : ℕ) (q : Place) → None ≡ top_at b q → None ≡ top_at (without b x) q
top_none b is x q top = sym (top_at-without b is x q ∙ ap (top_left b x) (sym top))
