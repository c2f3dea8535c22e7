-- How one ply of a played game is counted.
use Rattle.std.specs.Prelude.{◌≡◌, ℕ, ◌<◌, ◌≤◌, Bool, List, slice_index, slice_index_or, if◌then◌else◌}
use Rattle.std.specs.List.{list_any}
use Rattle.std.specs.declared.option.Option.{Option}
use Rattle.std.specs.declared.option.Option.TheVariants.{None, Some}
use Rattle.hive_model.specs.declared.places.Place.{Place}
use Rattle.hive_model.specs.declared.places.Move.{Move}
use Rattle.hive_model.specs.declared.places.Move.TheVariants.{Pass, To}
use Rattle.hive_model.specs.Lists.{count_from}
use Rattle.hive_model.specs.Places.{IsWithin}
use Rattle.hive_model.specs.Keys.{KeyParts}
use Rattle.symmetry.specs.Shifts.{IsShift}
use Rattle.symmetry.specs.Takes.{takes_by}

-- the place to which a piece goes is in the plane
abbrev pub IsPlaced : Move → Type 0
IsPlaced Pass = Unit {0}
IsPlaced (To x q) = IsWithin 9000 q

-- for each of the twelve symmetries, the shift between two keys, if there is one
pub record AreShifts (shifts : List (Option Place)) (a b : KeyParts) : Type 0 where
  pub shift : (s : ℕ) → s < 12 → IsShift (slice_index_or shifts s None) a b s
  pub within : (s : ℕ) (t : Place) → slice_index_or shifts s None ≡ Some t → IsWithin 40000 t

-- one of the symmetries, with its shift, maps the move to the other
unfoldable pub is_taken_to : List (Option Place) → Move → Move → Bool
is_taken_to shifts n m =
    list_any (λ s. takes_by s (slice_index_or shifts s None) n m) (count_from 0 12)

abbrev pub one_if : Bool → ℕ
one_if b = if b then 1 else 0

-- The greatest of the counts before an end, and its first place if it is not 0.
pub record IsMost (counts : List ℕ) (end place most : ℕ) : Type 0 where
  pub here : 0 < most → (place < end) × (slice_index counts place ≡ most)
  pub greatest : (j : ℕ) → j < end → slice_index counts j ≤ most
  pub first : 0 < most → (j : ℕ) → j < place → slice_index counts j < most
