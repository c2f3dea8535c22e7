-- What contracts see of a game in progress.
use Rattle.std.specs.Prelude.{ℕ, ◌+◌, ◌-◌, Bool, true, false, ◌&&◌, nat_eq, List, [], ◌∷◌, ◌++◌, take, length}
use Rattle.std.specs.List.{list_any}
use Rattle.hive_model.specs.declared.pieces.GameType.{GameType}
use Rattle.hive_model.specs.declared.places.Move.{Move}
use Rattle.hive_model.specs.declared.places.Move.TheVariants.{Pass, To}
use Rattle.hive_model.specs.Places.{is_place}
use Rattle.hive_model.specs.Positions.{Position, opening}
use Rattle.hive_model.specs.Legal.{moves}
use Rattle.hive_model.specs.Games.{replay}

-- A game that is read has at most 5,000 plies, and a search adds at most 64.
abbrev pub most_plies : ℕ
most_plies = 5064

-- the game type, the moves made so far, and how many more plies there is room for
pub record History : Type 0 where
  pub game_type : GameType
  pub made : List Move
  pub spare : ℕ

-- the position that the game has reached
abbrev pub position : History → Position
position c = replay (opening c.game_type) c.made

-- the game with one more move
abbrev pub with_move : History → Move → History
with_move c m = record { game_type = c.game_type; made = c.made ++ m ∷ []; spare = c.spare - 1 }

-- the game without its last move
abbrev pub without_last : History → History
without_last c =
    record { game_type = c.game_type; made = take (length c.made - 1) c.made; spare = c.spare + 1 }

-- the two moves are the same
abbrev pub is_move : Move → Move → Bool
is_move Pass Pass = true
is_move Pass (To y r) = false
is_move (To x q) Pass = false
is_move (To x q) (To y r) = nat_eq x y && is_place q r

-- whether the move is on the list of legal moves
unfoldable pub is_listed : Position → Move → Bool
is_listed p m = list_any (is_move m) (moves p)
