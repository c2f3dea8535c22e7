-- Pieces and places as moves, piece by piece, on the last level.
use Rattle.std.specs.Prelude.{◌≡◌, ◌↔◌, ℕ, ◌-◌, ◌*◌, ◌<◌, ◌≤◌, List, ◌++◌, map, length}
use Rattle.hive_model.specs.declared.places.Place.{Place}
use Rattle.hive_model.specs.declared.places.Move.{Move}
use Rattle.hive_model.specs.declared.places.Move.TheVariants.{Pass, To}
use Rattle.hive_model.specs.Lists.{IsOn, Rises}
use Rattle.hive_model.specs.PlaceLists.{AreAll}
use Rattle.hive_model.specs.Legal.{move_cmp}
use Rattle.hive_model.specs.Stack.{Levels, level_of, without_level}

-- the moves of the last level
abbrev pub last_level : Levels → List Move
last_level s = level_of s (length s.lists - 1)

-- the move takes one of the first n pieces to a place, as it may
abbrev pub IsPairBelow : (ℕ → Place → Type 0) → ℕ → Move → Type 0
IsPairBelow May n Pass = ⊥
IsPairBelow May n (To x q) = (x < n) × May x q

-- the last level holds the moves of which this holds and no others, in order, each once, and
-- nothing else changed
pub record ListsAll (Holds : Move → Type 0) (old new : Levels) : Type 0 where
  pub listed : (m : Move) → IsOn (last_level new) m ↔ Holds m
  pub order : Rises move_cmp (last_level new)
  pub levels : length new.lists ≡ length old.lists
  pub others : without_level new ≡ without_level old

-- the moves of the first n pieces are listed, and there is room for those of the others
pub record ListsBelow (May : ℕ → Place → Type 0) (n : ℕ) (old new : Levels) : Type 0 where
  pub all : ListsAll (IsPairBelow May n) old new
  pub room : length (last_level new) ≤ 196 * n

-- the last level gains the moves of the piece to all places where it may go, in their order, and
-- nothing else changes
pub record GainsPlaces (May : Place → Type 0) (x : ℕ) (old new : Levels) : Type 0 where
  pub places : List Place
  pub all : AreAll May places
  pub few : length places ≤ 196
  pub added : last_level new ≡ last_level old ++ map (λ q. To x q) places
  pub levels : length new.lists ≡ length old.lists
  pub others : without_level new ≡ without_level old
