-- Boards of tests.
use Rattle.std.specs.Prelude.{IsTrue}
use Rattle.hive_model.specs.declared.places.Place.{Place}
use Rattle.hive_model.specs.Places.{IsWithin}
use Rattle.hive_model.specs.Boards.{Stacks, is_occupied}

-- no coordinate of an occupied place is larger than 9 in size
abbrev pub IsSmall : Stacks → Type 0
IsSmall b = (q : Place) → IsTrue (is_occupied b q) → IsWithin 9 q
