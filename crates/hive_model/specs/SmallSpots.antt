-- Spots as a key stores them, in less memory.
use Rattle.std.specs.Prelude.{◌≡◌, ℕ, pos, true, false, List, map, Option, None, Some, if◌then◌else◌}
use Rattle.hive_model.specs.declared.places.Spot.{Spot}
use Rattle.hive_model.specs.declared.key.SmallSpot.{SmallSpot}
use Rattle.hive_model.specs.Keys.{IsInPlane}
use Rattle.hive_model.specs.SpotNumbers.{number_in}

abbrev pub small : Option Spot → SmallSpot
small None = record { q = pos 0; r = pos 0; level = 0; in_play = false }
small (Some s) = record { q = s.place.q; r = s.place.r; level = s.level; in_play = true }

-- the spot of a packed one
abbrev pub large : SmallSpot → Option Spot
large s =
    if s.in_play then Some (record { place = record { q = s.q; r = s.r }; level = s.level })
    else None

-- The invariant of a key's packed spots and its number n. No coordinate exceeds 9,000 in absolute
-- value, a piece in hand has 0 in every field, and n is the number of the spots.
pub record IsSmallKey (n : ℕ) (spots : List SmallSpot) : Type 0 where
  pub plane : IsInPlane (map large spots)
  pub again : map small (map large spots) ≡ spots
  pub number : number_in (map large spots) ≡ n
