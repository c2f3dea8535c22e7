-- When it does not matter which piece rests.
use Rattle.std.specs.Prelude.{◌≡◌, ℕ, None, Some, ◌⊎◌}
use Rattle.hive_model.specs.declared.pieces.Kind.TheVariants.{Mosquito, Pillbug}
use Rattle.hive_model.specs.declared.places.Spot.{Spot}
use Rattle.hive_model.specs.Boards.{spot_of}
use Rattle.hive_model.specs.Legal.{moves}
use Rattle.hive_model.specs.Pieces.{kind_of, colour_of, other_side}
use Rattle.hive_model.specs.Places.{AreNeighbours}
use Rattle.hive_model.specs.Positions.{Position}

-- The piece that rests, if there is one, belongs to the side that is not to move. It is not beside
-- a pillbug or a mosquito of the side to move, which could throw it.
pub record RestsUntouched (p : Position) : Type 0 where
  pub theirs : (x : ℕ) → p.rest ≡ Some x → colour_of x ≡ other_side p.side
  pub untouched : (x y : ℕ) (s t : Spot) → p.rest ≡ Some x → spot_of p.board x ≡ Some s
      → colour_of y ≡ p.side → (kind_of y ≡ Pillbug) ⊎ (kind_of y ≡ Mosquito)
      → spot_of p.board y ≡ Some t → ¬ AreNeighbours t.place s.place

-- the same position with no resting piece
abbrev pub awake : Position → Position
awake p = record {
  game_type = p.game_type;
  board = p.board;
  side = p.side;
  turn = p.turn;
  rest = None;
}

-- The side to move has the same legal moves as if no piece rested.
abbrev pub RestDoesNotMatter : Type 0
RestDoesNotMatter = (p : Position) → RestsUntouched p → moves p ≡ moves (awake p)
