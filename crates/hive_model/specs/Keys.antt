-- What the value of a position depends on, in one record that can be compared.
use Rattle.std.specs.Prelude.{◌≡◌, ℕ, min, List, map, Option, None, Some, slice_index_or}
use Rattle.hive_model.specs.declared.pieces.Colour.{Colour}
use Rattle.hive_model.specs.declared.pieces.GameType.{GameType}
use Rattle.hive_model.specs.declared.places.Spot.{Spot}
use Rattle.hive_model.specs.Pieces.{all_pieces}
use Rattle.hive_model.specs.Places.{IsWithin}
use Rattle.hive_model.specs.Boards.{Stacks, spot_of}
use Rattle.hive_model.specs.Positions.{Position}

-- The place and level of each of the 28 pieces in order, the game type, the side to move, the turn
-- and the piece that rests. The turn is capped at 5, and places are absolute. No rule depends on
-- the turn number from the fifth turn on.
pub record KeyParts : Type 0 where
  pub spots : List (Option Spot)
  pub game_type : GameType
  pub side : Colour
  pub turn : ℕ
  pub rest : Option ℕ

unfoldable pub key_of : GameType → Stacks → Colour → ℕ → Option ℕ → KeyParts
key_of t b side turn rest =
    record {
      spots = map (spot_of b) all_pieces;
      game_type = t;
      side = side;
      turn = min turn 5;
      rest = rest;
    }

-- a position's key
abbrev pub key : Position → KeyParts
key p = key_of p.game_type p.board p.side p.turn p.rest

-- the spot of a piece, if it is in play
abbrev pub spot_in : KeyParts → ℕ → Option Spot
spot_in k x = slice_index_or k.spots x None

-- no coordinate of a spot exceeds 9,000 in absolute value
abbrev pub IsInPlane : List (Option Spot) → Type 0
IsInPlane spots = (x : ℕ) (s : Spot) → slice_index_or spots x None ≡ Some s → IsWithin 9000 s.place
