-- A piece that was thrown is at the place to which it was thrown.
use Rattle.std.proofs.Common.{◌≡◌, ℕ, true, false, cond, inl, inr, refl, sym, ◌∙◌, ap, arith}
use Rattle.std.specs.Prelude.{Some, slice_get}
use Rattle.std.specs.List.{remove}
use Rattle.std.proofs.lemmas.List.Edits.{length-remove}
use Rattle.hive_model.specs.declared.places.Place.{Place}
use Rattle.hive_model.specs.declared.places.Dir.{Dir}
use Rattle.hive_model.specs.declared.places.Spot.{Spot}
use Rattle.hive_model.specs.Places.{is_place, step, IsWithin}
use Rattle.hive_model.specs.Boards.{Stacks, stack_at, height_at, spot_of, put, without, without_at, StandsAt, IsBoard}
use Rattle.hive_model.proofs.PlaceLemmas.{false_place, step_inside}
use Rattle.hive_model.proofs.GetLemmas.{get_within}
use Rattle.hive_model.proofs.BoardLemmas.{stack_at-set_stack, spot_of_stands, put_stands}

pub step_out : (p : Place) (d : Dir) → IsWithin 9600 p → IsWithin 10000 (step p d)
step_out = step_inside 9600 10000 (omega arith)

pub step_near : (p : Place) (d : Dir) → IsWithin 9500 p → IsWithin 9600 (step p d)
step_near = step_inside 9500 9600 (omega arith)

module _ (b : Stacks) (is : IsBoard b) (x : ℕ) (s : Spot) (at : spot_of b x ≡ Some s) (alone : height_at b s.place ≡ 1) where
  -- a piece that was alone on its place is nowhere when it is taken away
  gone : (r : Place) (i : ℕ) → StandsAt (without b x) x r i → ⊥
  gone r i h =
      let stands = spot_of_stands b x s at in
      let low = get_within (stack_at b s.place) s.level x stands in
      let left = length-remove (stack_at b s.place) s.level low in
      elim (is_place r s.place) as (λ t. is_place r s.place ≡ t → slice_get (cond t (remove (stack_at b s.place) s.level) (stack_at b r)) i ≡ Some x → ⊥) [
        | true ↦ λ _ k. let within = get_within (remove (stack_at b s.place) s.level) i x k in omega (arith, within, left, alone)
        | false ↦ λ e k. false_place r s.place e (is.once x r s.place i s.level k stands).0
      ] refl (ap (λ xs. slice_get xs i) (sym (stack_at-set_stack b s.place (remove (stack_at b s.place) s.level) r)) ∙ ap (λ o. slice_get (stack_at (without_at b o) r) i) (sym at) ∙ h)

  pub thrown_to : (q r : Place) (i : ℕ) → StandsAt (put (without b x) x q) x r i → r ≡ q
  thrown_to q r i h = elim (put_stands (without b x) x q x r i h) [ inl old ↦ absurd (gone r i old) | inr new ↦ new.1 ]
