-- How many places there are.
use Rattle.std.specs.Prelude.{◌≡◌, ℕ, ◌≤◌, List, length}
use Rattle.hive_model.specs.declared.places.Place.{Place}
use Rattle.hive_model.specs.PlaceLists.{AreAll}

-- so many places meet May; they fit a list of places
pub record AreMany (May : Place → Type 0) (n : ℕ) : Type 0 where
  pub places : List Place
  pub all : AreAll May places
  pub few : length places ≤ 196
  pub many : length places ≡ n
