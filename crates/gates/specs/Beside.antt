-- The two common neighbours of the places of a step.
use Rattle.std.specs.Prelude.{Bool, not, ◌&&◌, ◌||◌}
use Rattle.hive_model.specs.declared.places.Place.{Place}
use Rattle.hive_model.specs.declared.places.Dir.{Dir}
use Rattle.hive_model.specs.Places.{step, dir_before, dir_after}
use Rattle.hive_model.specs.Boards.{Stacks, is_occupied}

-- exactly one of them is occupied
abbrev pub is_beside_one : Stacks → Place → Dir → Bool
is_beside_one b p d =
    is_occupied b (step p (dir_before d)) && not (is_occupied b (step p (dir_after d)))
    || not (is_occupied b (step p (dir_before d))) && is_occupied b (step p (dir_after d))
