-- What the mask of the occupied neighbours of a place tells of them.
use Rattle.std.proofs.Common.{◌≡◌, ℕ, Bool, true, false, sym, ◌∙◌, ap}
use Rattle.std.specs.Prelude.{IsTrue}
use Rattle.hive_model.specs.declared.places.Place.{Place}
use Rattle.hive_model.specs.declared.places.Dir.{Dir}
use Rattle.hive_model.specs.Places.{step}
use Rattle.hive_model.specs.Boards.{Stacks, height_at, is_occupied}
use Rattle.hive_model.specs.Neighbours.{ring, ring_mask}
use Rattle.hive_model.proofs.CopyLaws.{not_occupied}
use Rattle.gates.specs.Slides.{has_dir}
use Rattle.gates.proofs.Rings.{ring_has}

module _ (b : Stacks) (p : Place) (d : Dir) where
  pub is_taken : (to : Place) (m : ℕ) {answer : Bool} → m ≡ ring_mask (ring (is_occupied b) p) → to ≡ step p d → answer ≡ has_dir m d → answer ≡ true → IsTrue (is_occupied b to)
  is_taken to m mask leads is set = ap (is_occupied b) leads ∙ sym (ring_has m (ring (is_occupied b) p) mask d) ∙ sym is ∙ set

  pub is_free : (m : ℕ) {answer : Bool} → m ≡ ring_mask (ring (is_occupied b) p) → answer ≡ has_dir m d → answer ≡ false → is_occupied b (step p d) ≡ false
  is_free m mask is unset = sym (ring_has m (ring (is_occupied b) p) mask d) ∙ sym is ∙ unset

  pub not_taken : (m : ℕ) {answer : Bool} → m ≡ ring_mask (ring (is_occupied b) p) → answer ≡ has_dir m d → answer ≡ false → IsTrue (is_occupied b (step p d)) → ⊥
  not_taken m mask is unset on = let wrong : false ≡ true = sym (is_free m mask is unset) ∙ on in cc

  -- where a step leads to a neighbour that is not taken, its place is empty
  pub is_empty : (to : Place) (m : ℕ) {answer : Bool} → m ≡ ring_mask (ring (is_occupied b) p) → to ≡ step p d → answer ≡ has_dir m d → answer ≡ false → height_at b to ≡ 0
  is_empty to m mask leads is unset = not_occupied b to (ap (is_occupied b) leads ∙ is_free m mask is unset)
