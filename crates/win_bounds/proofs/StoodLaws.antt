-- What is on the board after a move was there before, except the piece that moved.
use Rattle.std.proofs.Common.{◌≡◌, ◌≢◌, ℕ, suc, zero, true, false, cond, List, [], ◌∷◌, ◌⊎◌, inl, inr, refl, sym, ◌∙◌, ap}
use Rattle.std.specs.Prelude.{Some, None, slice_get, IsTrue}
use Rattle.std.specs.List.{remove}
use Rattle.hive_model.specs.declared.places.Place.{Place}
use Rattle.hive_model.specs.Places.{is_place}
use Rattle.hive_model.specs.Boards.{Stacks, stack_at, is_occupied, spot_of, put, without, without_at, StandsAt}
use Rattle.hive_model.proofs.PlaceLemmas.{same_place}
use Rattle.hive_model.proofs.BoardLemmas.{stack_at-set_stack, put_stands, stands_occupied, occupied_stands}
use Rattle.hive_model.proofs.KeepLaws.{was_or_new}

left_from : (xs : List ℕ) (i k y : ℕ) → slice_get (remove xs i) k ≡ Some y → (j : ℕ) × (slice_get xs j ≡ Some y)
left_from [] zero k y e = (k, e)
left_from [] (suc i) k y e = (k, e)
left_from (x ∷ xs) zero k y e = (suc k, e)
left_from (x ∷ xs) (suc i) zero y e = (0, e)
left_from (x ∷ xs) (suc i) (suc k) y e = let r = left_from xs i k y e in (suc r.0, r.1)

stood_without : (b : Stacks) (x y : ℕ) (q : Place) (i : ℕ) → StandsAt (without b x) y q i → (j : ℕ) × StandsAt b y q j
stood_without b x y q i h = elim (spot_of b x) as (λ o. StandsAt (without_at b o) y q i → (j : ℕ) × StandsAt b y q j) [
  | None ↦ λ k. (i, k)
  | Some s ↦ λ k.
      elim (is_place q s.place) as (λ t. is_place q s.place ≡ t → slice_get (cond t (remove (stack_at b s.place) s.level) (stack_at b q)) i ≡ Some y → (j : ℕ) × StandsAt b y q j) [
        | true ↦ λ e r.
            let old = left_from (stack_at b s.place) s.level i y r in
            (old.0, ap (λ z. slice_get (stack_at b z) old.0) (same_place q s.place e) ∙ old.1)
        | false ↦ λ _ r. (i, r)
      ] refl (ap (λ xs. slice_get xs i) (sym (stack_at-set_stack b s.place (remove (stack_at b s.place) s.level) q)) ∙ k)
] h

module _ (b : Stacks) (x : ℕ) (q : Place) where
  -- a piece that did not move is on the same place as before
  pub stood_before : (y : ℕ) (r : Place) (i : ℕ) → y ≢ x → StandsAt (put (without b x) x q) y r i → (j : ℕ) × StandsAt b y r j
  stood_before y r i other h = elim (put_stands (without b x) x q y r i h) [ inl old ↦ stood_without b x y r i old | inr new ↦ absurd (other new.0) ]

  -- a move fills at most the place to which it goes
  pub was_occupied : (r : Place) → IsTrue (is_occupied (put (without b x) x q) r) → (is_occupied b r ≡ true) ⊎ (r ≡ q)
  was_occupied r h = elim (was_or_new (without b x) x q r h) [
    | inl old ↦
        let first = occupied_stands (without b x) r old in
        let stood = stood_without b x first.0 r 0 first.1 in
        inl (stands_occupied b first.0 r stood.0 stood.1)
    | inr new ↦ inr new
  ]
