-- The towers and rings of a wrapped grid, and the links downward, of a board.
use Rattle.std.specs.Prelude.{◌≡◌, ◌≢◌, ℕ, ◌*◌, ◌<◌, ◌⊎◌, Bool, not, if◌then◌else◌, IsTrue}
use Rattle.std.specs.Prelude.{List, length, Option, Some, slice_get}
use Rattle.hive_model.specs.declared.places.Place.{Place}
use Rattle.hive_model.specs.Boards.{Stacks, height_at, is_occupied, top_at, under_of}
use Rattle.hive_model.specs.Neighbours.{ring, ring_mask}
use Rattle.torus_board.specs.Residues.{cell_of}
use Rattle.torus_board.specs.declared.rings.Ring.{Ring}
use Rattle.torus_board.specs.declared.towers.Tower.{Tower}

-- the sides that a grid may have
abbrev pub IsSide : ℕ → Type 0
IsSide n = (n ≡ 32) ⊎ ((n ≡ 64) ⊎ (n ≡ 128))

-- the tower of a place
abbrev pub tower_at : Stacks → Place → Tower
tower_at b p = record { place = p; height = height_at b p; top = top_at b p }

-- the cell of each occupied place has its tower, and a cell that was written for a place of its own
-- has the tower of that place
pub record HasTowers (n : ℕ) (b : Stacks) (towers : List Tower) : Type 0 where
  pub many : length towers ≡ n * n
  pub here : (p : Place) → IsTrue (is_occupied b p)
      → slice_get towers (cell_of n p) ≡ Some (tower_at b p)
  pub own : (p : Place) (t : Tower) → slice_get towers (cell_of n p) ≡ Some t → t.place ≡ p
      → t ≡ tower_at b p

-- the cell of a place was written for it last, and has this mask
abbrev pub HasMask : ℕ → List Ring → Place → ℕ → Type 0
HasMask n rings p m = slice_get rings (cell_of n p) ≡ Some (record { place = p; mask = m })

-- a cell that was written for a place tells which neighbours of that place are occupied
pub record IsRinged (n : ℕ) (b : Stacks) (rings : List Ring) : Type 0 where
  pub many : length rings ≡ n * n
  pub masks : (p : Place) (m : ℕ) → HasMask n rings p m → m ≡ ring_mask (ring (is_occupied b) p)

-- from the first board to the second no place but this one came to be occupied or empty, and this
-- one did where it changes
pub record IsTurned (b c : Stacks) (p : Place) (changes : Bool) : Type 0 where
  pub here : is_occupied c p ≡ (if changes then not (is_occupied b p) else is_occupied b p)
  pub there : (q : Place) → q ≢ p → is_occupied c q ≡ is_occupied b q

-- each piece has the piece directly below it, if there is one
pub record IsLinked (b : Stacks) (below : List (Option ℕ)) : Type 0 where
  pub many : length below ≡ 28
  pub links : (x : ℕ) → x < 28 → slice_get below x ≡ Some (under_of b x)
