-- The ground steps from a place, all six directions at once.
use Rattle.std.specs.Prelude.{ℕ, Bool, not, ◌&&◌, ◌||◌, ◌↔◌, nat_lt, bit_and, IsTrue}
use Rattle.hive_model.specs.declared.places.Place.{Place}
use Rattle.hive_model.specs.declared.places.Dir.{Dir}
use Rattle.hive_model.specs.Places.{step, dir_before, dir_after}
use Rattle.hive_model.specs.Boards.{Stacks}
use Rattle.hive_model.specs.Neighbours.{weight}
use Rattle.hive_model.specs.Steps.{GroundStep}

-- whether the bit of a direction is set in a mask
abbrev pub has_dir : ℕ → Dir → Bool
has_dir m d = nat_lt 0 (bit_and m (weight d))

-- a mask has the directions of the ground steps from a place, and no others
abbrev pub AreSlides : Stacks → Place → ℕ → Type 0
AreSlides b p m = (d : Dir) → IsTrue (has_dir m d) ↔ GroundStep b p (step p d)

-- amid the occupied neighbours of an empty place, a ground step leads to one that is not occupied,
-- beside exactly one that is
abbrev pub slides : (Dir → Bool) → Dir → Bool
slides r d = not (r d) && (r (dir_before d) && not (r (dir_after d))
    || not (r (dir_before d)) && r (dir_after d))
