-- What a worker needs to search a child of a root, and what it finds out about the child.
use Rattle.std.specs.Prelude.{◌≡◌, ℕ, ◌-◌, ◌<◌, ◌≤◌, ℤ, pos, ◌≤ℤ◌, ◌<ℤ◌, slice_get, Some}
use Rattle.hive_model.specs.declared.places.Move.{Move}
use Rattle.hive_model.specs.Positions.{Position}
use Rattle.hive_model.specs.Lists.{IsOn}
use Rattle.hive_model.specs.Legal.{moves}
use Rattle.hive_model.specs.Minimax.{value, reply_value, IsInner}
use Rattle.hive_model.specs.Histories.{History, position}
use Rattle.root_share.specs.declared.work.Child.{Child}
use Rattle.root_share.specs.Run.{first_bound}

-- The child is the move at its place on the root's list.
abbrev pub IsChild : Position → Child → Type 0
IsChild root child = slice_get (moves root) child.place ≡ Some child.m

-- the value of a child of the root, if the root is searched to this depth
abbrev pub child_worth : Position → ℕ → Child → ℤ
child_worth root depth child = reply_value root (depth - 1) child.m

-- This many plies can be searched after a move. The move is legal in the game's position, and the
-- game and the searcher have room for the plies, 63 at most.
pub record MaySearch (game : History) (prepared : ℕ) (m : Move) (depth : ℕ) : Type 0 where
  pub legal : IsOn (moves (position game)) m
  pub deep : depth < 64
  pub spare : depth < game.spare
  pub enough : depth ≤ prepared

-- The bound is at least the first bound of a word, and at most the greatest value of a root.
pub record IsBound (bound : ℤ) : Type 0 where
  pub low : first_bound ≤ℤ bound
  pub high : bound ≤ℤ pos 1000064

-- If the number found is at least the bound, it is the value. Otherwise the value is below the
-- bound.
pub record IsTested (worth bound found : ℤ) : Type 0 where
  pub exact : bound ≤ℤ found → found ≡ worth
  pub below : found <ℤ bound → worth <ℤ bound

-- At least one ply is to be searched at the root, and at most 64. The seat knows how many.
pub record IsDepth (root : Position) (known depth : ℕ) : Type 0 where
  pub inner : IsInner root depth
  pub agreed : known ≡ depth
  pub deep : depth ≤ 64

-- The bound is the one that the seat knows, and at most the value of the root.
pub record IsLatest (root : Position) (depth : ℕ) (top bound : ℤ) : Type 0 where
  pub stands : top ≡ bound
  pub most : bound ≤ℤ value root depth
