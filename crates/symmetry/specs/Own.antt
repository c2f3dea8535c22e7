-- Symmetries of one position: those by which it is alike to itself.
use Rattle.std.specs.Prelude.{◌≡◌, ℕ, ◌<◌, List, ◌↔◌}
use Rattle.hive_model.specs.declared.places.Place.{Place}
use Rattle.hive_model.specs.Lists.{IsOn}
use Rattle.hive_model.specs.Boards.{IsBoard}
use Rattle.hive_model.specs.Positions.{Position}
use Rattle.hive_model.specs.Keys.{KeyParts, key}
use Rattle.symmetry.specs.declared.own.OwnSymmetry.{OwnSymmetry}
use Rattle.symmetry.specs.Alike.{Alike}

-- The symmetry and the shift are on the list.
pub record IsListed (own : List OwnSymmetry) (s : ℕ) (t : Place) : Type 0 where
  pub item : OwnSymmetry
  pub listed : IsOn own item
  pub symmetry : item.symmetry ≡ s
  pub shift : item.shift ≡ t

-- The position is alike to itself by this symmetry and this shift. The symmetry is not the
-- identity, and its number is below n.
pub record IsOwnBelow (n : ℕ) (p : Position) (s : ℕ) (t : Place) : Type 0 where
  pub moves : 0 < s
  pub below : s < n
  pub alike : Alike p p s t

-- The list has exactly those of the position of a key.
abbrev pub AreOwnBelow : ℕ → KeyParts → List OwnSymmetry → Type 0
AreOwnBelow n k own =
    (p : Position) → IsBoard p.board → k ≡ key p → (s : ℕ) (t : Place)
    → IsListed own s t ↔ IsOwnBelow n p s t

-- The list has exactly the symmetries of the position of a key, but for the identity, each with its
-- shift.
abbrev pub AreOwn : KeyParts → List OwnSymmetry → Type 0
AreOwn = AreOwnBelow 12
