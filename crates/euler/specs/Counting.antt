-- Euler's number, counted piece by piece.
use Rattle.std.specs.Prelude.{◌≡◌, ◌↔◌, ℕ, ℤ, pos, ◌-ℤ◌, Bool, Option, Some, None, nat_eq, IsTrue, if◌then◌else◌}
use Rattle.std.specs.Int.Bits.{bit_and}
use Rattle.hive_model.specs.declared.places.Place.{Place}
use Rattle.hive_model.specs.declared.places.Spot.{Spot}
use Rattle.hive_model.specs.Neighbours.{ring, ring_mask}
use Rattle.hive_model.specs.Boards.{Stacks, IsBoard, is_occupied}
use Rattle.hive_model.specs.Hive.{OneHive, IsSeparating}
use Rattle.arcs.specs.Masks.{arcs}
use Rattle.euler.specs.Euler.{euler_number}

-- What a place counts, by the mask of its neighbours: 1, minus the pairs and plus the triangles in
-- the directions E, NE and NW. That is 1 minus the arcs of those three.
abbrev pub worth : ℕ → ℤ
worth mask = pos 1 -ℤ pos (arcs (bit_and mask 7))

-- A piece on the ground counts what its place does, and any other piece counts 0.
abbrev pub counted : Stacks → Option Spot → ℤ
counted b None = pos 0
counted b (Some s) =
    if nat_eq s.level 0 then worth (ring_mask (ring (is_occupied b) s.place)) else pos 0

-- The answer decides whether an occupied place with these neighbours is separating, on one hive
-- with Euler's number 1.
abbrev pub TellsCuts : ℕ → Bool → Type 0
TellsCuts mask answer =
    (b : Stacks) → IsBoard b → OneHive b → euler_number b ≡ pos 1 → (p : Place)
    → IsTrue (is_occupied b p) → mask ≡ ring_mask (ring (is_occupied b) p)
    → IsTrue answer ↔ IsSeparating b p

-- The same on one hive with this Euler's number.
abbrev pub TellsBeside : ℕ → ℤ → Bool → Type 0
TellsBeside mask number answer =
    (b : Stacks) → IsBoard b → OneHive b → euler_number b ≡ number → (p : Place)
    → IsTrue (is_occupied b p) → mask ≡ ring_mask (ring (is_occupied b) p)
    → IsTrue answer ↔ IsSeparating b p
