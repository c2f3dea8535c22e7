use Rattle.std.specs.Prelude.{◌≡◌, ℕ, ◌<◌, Some}
use Rattle.hive_model.specs.declared.places.Spot.{Spot}
use Rattle.hive_model.specs.Places.{IsWithin}
use Rattle.hive_model.specs.Keys.{spot_in}
use Rattle.symmetry.proofs.keys.are_in_plane.Given as goal

abbrev pub invariant-loop-index : goal.invariant-loop-index
invariant-loop-index l = (k : ℕ) (s : Spot) → k < l.index → spot_in l.key k ≡ Some s → IsWithin 9000 s.place
