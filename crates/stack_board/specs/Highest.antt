-- The highest of the pieces on a place.
use Rattle.std.specs.Prelude.{ℕ, ◌<◌, ◌≤◌, Option, Some, None}
use Rattle.hive_model.specs.declared.places.Place.{Place}
use Rattle.hive_model.specs.Spots.{Spots, HasSpot}

-- of the first n pieces this one is the highest on the place, or none of them is there
abbrev pub IsHighest : Spots → Place → ℕ → Option ℕ → Type 0
IsHighest s p n None = (y level : ℕ) → y < n → HasSpot s y p level → ⊥
IsHighest s p n (Some x) =
    (top : ℕ) × HasSpot s x p top × ((y level : ℕ) → y < n → HasSpot s y p level → level ≤ top)
