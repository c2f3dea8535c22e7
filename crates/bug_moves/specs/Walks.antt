-- The ways of an ant, and the list of places that it has still to go on from.
use Rattle.std.specs.Prelude.{◌≡◌, ◌≢◌, ℕ, ◌<◌, List, length, Some, slice_get}
use Rattle.hive_model.specs.declared.places.Place.{Place}
use Rattle.hive_model.specs.declared.places.Dir.{Dir}
use Rattle.hive_model.specs.Lists.{IsOn, IsPath}
use Rattle.hive_model.specs.Boards.{Stacks}
use Rattle.hive_model.specs.Steps.{GroundStep}
use Rattle.bug_moves.specs.Adding.{IsAround}
use Rattle.bug_moves.specs.Ways.{Toward, StepAway}

abbrev pub StepAwayToward : Stacks → Place → Place → Dir → Place → Type 0
StepAwayToward b s = Toward (StepAway b s)

-- one step on the ground after another, to another place than s
abbrev pub AntWay : Stacks → Place → Place → Type 0
AntWay b s q = (s ≢ q) × ((way : List Place) × IsPath (GroundStep b) s way q)

-- the worklist has the places that were found, in the order in which they were
pub record IsWorklist (found work : List Place) : Type 0 where
  pub from_found : (q : Place) → IsOn work q → IsOn found q
  pub has_found : (q : Place) → IsOn found q → IsOn work q
  pub many : length work ≡ length found

-- the second list begins with the first
abbrev pub Extends : List Place → List Place → Type 0
Extends old new = (k : ℕ) (q : Place) → slice_get old k ≡ Some q → slice_get new k ≡ Some q

-- each step from one of the first n places of the worklist, or from s, leads to s or to a place
-- that was found
pub record IsExpanded (b : Stacks) (s : Place) (found work : List Place) (n : ℕ) : Type 0 where
  pub list : IsAround b found
  pub ways : (q : Place) → IsOn found q → AntWay b s q
  pub start : (q : Place) → StepAway b s s q → IsOn found q
  pub others : (k : ℕ) → k < n → (p q : Place) → slice_get work k ≡ Some p → StepAway b s p q
      → IsOn found q
