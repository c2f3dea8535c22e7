-- The highest piece on a place is its top piece.
use Rattle.std.proofs.Common.{◌≡◌, ℕ, ◌+◌, ◌-◌, ◌≤◌, ◌<◌, true, false, List, [], ◌∷◌, length, refl, sym, ◌∙◌, ap, subst, arith, inl, inr, get_or}
use Rattle.std.specs.Prelude.{Option, Some, None, slice_get}
use Rattle.std.proofs.lemmas.Bool.{cases_eq}
use Rattle.std.proofs.lemmas.Option.{slice_get-get_or}
use Rattle.hive_model.specs.declared.places.Place.{Place}
use Rattle.hive_model.specs.declared.places.Spot.{Spot}
use Rattle.hive_model.specs.Places.{is_place}
use Rattle.hive_model.specs.Boards.{stack_at, height_at, top_at, top_of}
use Rattle.hive_model.specs.Spots.{Spots, IsSpots, HasSpot, board_of, height_by}
use Rattle.hive_model.proofs.PlaceLemmas.{same_place, false_place}
use Rattle.hive_model.proofs.GetLemmas.{get_within}
use Rattle.hive_model.proofs.SpotLemmas.{board_has, height_is, same_spot}
use Rattle.stack_board.specs.Highest.{IsHighest}

module _ (s : Spots) (p : Place) where
  -- none of no pieces
  pub highest_of_none : IsHighest s p 0 None
  highest_of_none = λ y level low h. absurd (omega (arith, low))

  -- a piece that is elsewhere, or nowhere
  pub higher_same : (n : ℕ) (o : Option ℕ) → ((level : ℕ) → HasSpot s n p level → ⊥) → IsHighest s p n o → IsHighest s p (n + 1) o
  higher_same n None away h = λ y level low there. elim (cases_eq y n) [
    | inl same ↦ away level (subst (λ z. HasSpot s z p level) same there)
    | inr other ↦ let less : y < n = omega (arith, low, other) in h y level less there
  ]
  higher_same n (Some x) away h = (
    h.0,
    h.1,
    λ y level low there. elim (cases_eq y n) [
      | inl same ↦ absurd (away level (subst (λ z. HasSpot s z p level) same there))
      | inr other ↦ let less : y < n = omega (arith, low, other) in h.2 y level less there
    ],
  )

  one_level : (x i j : ℕ) → HasSpot s x p i → HasSpot s x p j → i ≡ j
  one_level x i j h k = (same_spot p p i j (sym h ∙ k)).1

  -- a piece on the place, if none was there before
  pub higher_first : (n level : ℕ) → HasSpot s n p level → IsHighest s p n None → IsHighest s p (n + 1) (Some n)
  higher_first n level here h = (
    level,
    here,
    λ y i low there. elim (cases_eq y n) [
      | inl same ↦ let e = one_level n i level (subst (λ z. HasSpot s z p i) same there) here in omega (arith, e)
      | inr other ↦ let less : y < n = omega (arith, low, other) in absurd (h y i less there)
    ],
  )

  module _ (n level x : ℕ) (here : HasSpot s n p level) (h : IsHighest s p n (Some x)) where
    pub higher_old : level < h.0 → IsHighest s p (n + 1) (Some x)
    higher_old above = (
      h.0,
      h.1,
      λ y i low there. elim (cases_eq y n) [
        | inl same ↦ let e = one_level n i level (subst (λ z. HasSpot s z p i) same there) here in omega (arith, e, above)
        | inr other ↦ let less : y < n = omega (arith, low, other) in h.2 y i less there
      ],
    )

    pub higher_new : h.0 ≤ level → IsHighest s p (n + 1) (Some n)
    higher_new above = (
      level,
      here,
      λ y i low there. elim (cases_eq y n) [
        | inl same ↦ let e = one_level n i level (subst (λ z. HasSpot s z p i) same there) here in omega (arith, e)
        | inr other ↦ let less : y < n = omega (arith, low, other) in let old = h.2 y i less there in omega (arith, old, above)
      ],
    )

  top_none : (xs : List ℕ) → length xs ≡ 0 → top_of xs ≡ None
  top_none [] e = refl
  top_none (x ∷ xs) e = absurd (omega (arith, e))

  pub highest_is_top : IsSpots s → (o : Option ℕ) → IsHighest s p 28 o → o ≡ top_at (board_of s) p
  highest_is_top is None h =
      let low : height_at (board_of s) p ≡ 0 = elim (cases_eq (height_by s p) 0) [
        | inl none ↦ sym (height_is s is p) ∙ none
        | inr some ↦
            let more : 0 < height_by s p = omega (arith, some) in
            let r = is.full p 0 more in
            let small = get_within s r.0 _ r.1 in
            let less : r.0 < 28 = omega (arith, small, is.many) in
            absurd (h r.0 0 less r.1)
      ] in
      sym (top_none (stack_at (board_of s) p) low)
  highest_is_top is (Some x) h =
      let stands = board_has s is x p h.0 h.1 in
      let below = is.below x p h.0 h.1 in
      let tall : height_by s p ≡ h.0 + 1 = elim (cases_eq (height_by s p) (h.0 + 1)) [
        | inl same ↦ same
        | inr other ↦
            let more : h.0 + 1 < height_by s p = omega (arith, below, other) in
            let r = is.full p (h.0 + 1) more in
            let small = get_within s r.0 _ r.1 in
            let less : r.0 < 28 = omega (arith, small, is.many) in
            let high = h.2 r.0 (h.0 + 1) less r.1 in
            absurd (omega (arith, high))
      ] in
      let top : height_at (board_of s) p - 1 ≡ h.0 = omega (arith, tall, height_is s is p) in
      sym (ap (slice_get (stack_at (board_of s) p)) top ∙ stands)

-- what was read is the spot of the piece, and is on the place that the test named
pub read_spot : (s : Spots) (y x : ℕ) → y ≡ x → y < length s → (t : Spot) (p : Place) → get_or s y None ≡ Some t → is_place p t.place ≡ true → HasSpot s x p t.level
read_spot s y x same low t p read here =
    let e : t.place ≡ p = sym (same_place p t.place here) in
    ap (slice_get s) (sym same) ∙ slice_get-get_or s y None low ∙ ap Some read ∙ (λ i. Some (Some (record { place = e i; level = t.level })))

pub read_away : (s : Spots) (y x : ℕ) → y ≡ x → y < length s → (t : Spot) (p : Place) → get_or s y None ≡ Some t → is_place p t.place ≡ false → (level : ℕ) → HasSpot s x p level → ⊥
read_away s y x same low t p read there level h =
    let one : Some (Some t) ≡ Some (Some (record { place = p; level = level })) = sym (ap (slice_get s) (sym same) ∙ slice_get-get_or s y None low ∙ ap Some read) ∙ h in
    let two = same_spot t.place p t.level level one in
    false_place p t.place there (sym two.0)
