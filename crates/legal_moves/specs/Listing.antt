-- Whether any piece may go somewhere.
use Rattle.std.specs.Prelude.{ℕ}
use Rattle.hive_model.specs.declared.places.Place.{Place}
use Rattle.hive_model.specs.Positions.{Position}
use Rattle.hive_model.specs.Legal.{LegalPair}

-- some piece may go somewhere
abbrev pub HasPair : Position → Type 0
HasPair p = (x : ℕ) × (q : Place) × LegalPair p x q
