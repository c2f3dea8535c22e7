-- Positions: the pieces on the board, the side to move, the turn and the piece that rests.
use Rattle.std.specs.Prelude.{◌≡◌, ℕ, ◌<◌, Bool, false, nat_eq, [], Option, Some, None, IsTrue, ◌⊎◌}
use Rattle.hive_model.specs.declared.pieces.Colour.{Colour}
use Rattle.hive_model.specs.declared.pieces.Colour.TheVariants.{White}
use Rattle.hive_model.specs.declared.pieces.GameType.{GameType}
use Rattle.hive_model.specs.declared.pieces.Kind.TheVariants.{Beetle, Mosquito}
use Rattle.hive_model.specs.declared.places.Place.{Place}
use Rattle.hive_model.specs.Pieces.{kind_of, colour_of, OfType}
use Rattle.hive_model.specs.Boards.{Stacks, is_in_play, is_on_top, StandsAt, IsBoard}
use Rattle.hive_model.specs.Hive.{OneHive}

-- A game type, the board, the side to move, the turn number and the piece that rests. That is the
-- one that was placed, moved or thrown on the last ply.
pub record Position : Type 0 where
  pub game_type : GameType
  pub board : Stacks
  pub side : Colour
  pub turn : ℕ
  pub rest : Option ℕ

-- The game begins with an empty board, and white is to move.
abbrev pub opening : GameType → Position
opening t = record { game_type = t; board = []; side = White; turn = 1; rest = None }

abbrev pub is_piece : ℕ → Option ℕ → Bool
is_piece x None = false
is_piece x (Some y) = nat_eq x y

-- A piece that rests (is stunned) may not move, be thrown or throw.
abbrev pub rests : Position → ℕ → Bool
rests p x = is_piece x p.rest

-- A position is sound under these conditions. Each piece is on the board at most once and is of the
-- game type. The board is one hive, and only beetles and mosquitoes stand above the ground. The
-- numbers on the board of each kind and colour are the least ones. The resting piece, if there is
-- one, is on the board and on top.
pub record IsSound (p : Position) : Type 0 where
  pub board : IsBoard p.board
  pub of_type : (x : ℕ) → IsTrue (is_in_play p.board x) → OfType p.game_type x
  pub one_hive : OneHive p.board
  pub above : (x : ℕ) (q : Place) (level : ℕ) → StandsAt p.board x q level → 0 < level
      → (kind_of x ≡ Beetle) ⊎ (kind_of x ≡ Mosquito)
  pub least : (x y : ℕ) → IsTrue (is_in_play p.board x) → y < x → kind_of y ≡ kind_of x
      → colour_of y ≡ colour_of x → IsTrue (is_in_play p.board y)
  pub resting : (x : ℕ) → p.rest ≡ Some x → IsTrue (is_on_top p.board x)
