-- Which pieces a side may bring into play, and the placements as moves.
use Rattle.std.specs.Prelude.{◌≡◌, ◌≢◌, ℕ, ◌≤◌, None, IsTrue}
use Rattle.hive_model.specs.declared.pieces.Colour.{Colour}
use Rattle.hive_model.specs.declared.pieces.GameType.{GameType}
use Rattle.hive_model.specs.declared.pieces.Kind.TheVariants.{Queen}
use Rattle.hive_model.specs.declared.places.Move.{Move}
use Rattle.hive_model.specs.declared.places.Move.TheVariants.{Pass, To}
use Rattle.hive_model.specs.Pieces.{kind_of, colour_of, is_in_set, queen_of}
use Rattle.hive_model.specs.Boards.{Stacks, spot_of}
use Rattle.hive_model.specs.Positions.{Position}
use Rattle.hive_model.specs.Placement.{IsLeastInHand, Placement}

-- The piece is the side's, and the least of its kind in hand. On its first turn a side brings no
-- queen; on its fourth or a later turn, while its queen is in hand, nothing else.
pub record MayBring (t : GameType) (b : Stacks) (c : Colour) (turn : ℕ) (x : ℕ) : Type 0 where
  pub is_piece : IsTrue (is_in_set x)
  pub own : colour_of x ≡ c
  pub next : IsLeastInHand t b x
  pub no_first_queen : turn ≡ 1 → kind_of x ≢ Queen
  pub queen_by_fourth : 4 ≤ turn → spot_of b (queen_of c) ≡ None → kind_of x ≡ Queen

-- the side may bring some piece into play
abbrev pub CanBring : GameType → Stacks → Colour → ℕ → Type 0
CanBring t b c turn = (x : ℕ) × MayBring t b c turn x

-- the position in which this side is to move on this board, and no piece rests
abbrev pub position_awake : GameType → Stacks → Colour → ℕ → Position
position_awake t b c turn = record { game_type = t; board = b; side = c; turn = turn; rest = None }

-- the move is a placement
abbrev pub IsPlacementMove : Position → Move → Type 0
IsPlacementMove p Pass = ⊥
IsPlacementMove p (To x q) = Placement p x q
