-- Cells of a wrapped grid, and the places close to one hive.
use Rattle.std.specs.Prelude.{◌≡◌, ℕ, ◌+◌, ◌*◌, ◌≤◌, ℤ, pos, List, [], ◌∷◌, length, IsTrue}
use Rattle.std.specs.Int.{int_rem_euclid}
use Rattle.std.specs.Int.RustNames.{unsigned_abs}
use Rattle.hive_model.specs.declared.places.Place.{Place}
use Rattle.hive_model.specs.declared.places.Dir.{Dir}
use Rattle.hive_model.specs.Places.{step}
use Rattle.hive_model.specs.Boards.{Stacks, is_occupied, IsBoard}
use Rattle.hive_model.specs.Hive.{OneHive}

-- the place that these steps lead to
abbrev pub after_steps : Place → List Dir → Place
after_steps p [] = p
after_steps p (d ∷ ds) = after_steps (step p d) ds

-- an occupied place, or a place within two steps of one
pub record IsClose (b : Stacks) (q : Place) : Type 0 where
  pub from : Place
  pub occupied : IsTrue (is_occupied b from)
  pub way : List Dir
  pub short : length way ≤ 2
  pub leads : after_steps from way ≡ q

-- a coordinate's residue by the side of a grid, from 0 to side - 1
abbrev pub residue : ℕ → ℤ → ℕ
residue side z = unsigned_abs (int_rem_euclid z (pos side))

-- the number of a place's cell on a wrapped grid of side times side cells, row by row
abbrev pub cell_of : ℕ → Place → ℕ
cell_of side p = side * residue side p.q + residue side p.r

-- on a grid of side 32 or more the places close to one hive have cells of their own
abbrev pub ResidueLaw : Type 0
ResidueLaw =
    (side : ℕ) → 32 ≤ side → (b : Stacks) → IsBoard b → OneHive b → (p q : Place) → IsClose b p
    → IsClose b q
    → cell_of side p ≡ cell_of side q → p ≡ q
