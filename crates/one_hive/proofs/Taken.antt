-- What the mask of the occupied neighbours of a place says of each of them.
use Rattle.std.proofs.Common.{◌≡◌, ℕ, Bool, false, true, sym, ◌∙◌}
use Rattle.std.specs.Prelude.{IsTrue, Some}
use Rattle.hive_model.specs.declared.places.Place.{Place}
use Rattle.hive_model.specs.declared.places.Dir.{Dir}
use Rattle.hive_model.specs.Places.{step}
use Rattle.hive_model.specs.Boards.{Stacks, is_occupied, top_at}
use Rattle.hive_model.specs.Neighbours.{ring, ring_mask}
use Rattle.gates.specs.Slides.{has_dir}
use Rattle.gates.proofs.Rings.{ring_has}
use Rattle.one_hive.proofs.Visiting.{top_occupied}

module _ (b : Stacks) (p : Place) (m : ℕ) (is : m ≡ ring_mask (ring (is_occupied b) p)) (d : Dir) where
  pub taken_there : IsTrue (has_dir m d) → IsTrue (is_occupied b (step p d))
  taken_there on = sym (ring_has m (ring (is_occupied b) p) is d) ∙ on

  pub none_taken : (t : Bool) → t ≡ has_dir m d → t ≡ false → is_occupied b (step p d) ≡ false
  none_taken t asked off = sym (ring_has m (ring (is_occupied b) p) is d) ∙ sym asked ∙ off

  -- no piece is on top of a neighbour that is not in the mask
  pub no_top : (t : Bool) → t ≡ has_dir m d → t ≡ false → (x : ℕ) → top_at b (step p d) ≡ Some x → ⊥
  no_top t asked off x top = let wrong : false ≡ true = sym (none_taken t asked off) ∙ top_occupied b (step p d) x top in cc
