-- The answers about a game, by the definitions of the commands that answer the same.
use Rattle.std.specs.Prelude.{◌≡◌, ℕ, ◌&&◌, nat_le, false, List, [], ◌∷◌, ◌++◌, length, map, Result, Ok, Err, if◌then◌else◌}
use Rattle.hive_model.specs.declared.pieces.GameType.{GameType}
use Rattle.hive_model.specs.declared.places.Move.{Move}
use Rattle.hive_model.specs.Positions.{Position}
use Rattle.hive_model.specs.Histories.{History, is_listed}
use Rattle.hive_model.specs.Denotes.{text}
use Rattle.hive_model.specs.Legal.{is_over, moves}
use Rattle.hive_model.specs.Strings.{string_under}
use Rattle.io_edge.specs.Lines.{greatest_line}
use Rattle.move_text.specs.declared.faults.MoveFault.{MoveFault}
use Rattle.move_text.specs.declared.faults.MoveFault.TheVariants.{NotAMove, NoSuchPiece, NotInPlay as NoneThere}
use Rattle.move_text.specs.Moves.{move_of}
use Rattle.game_text.specs.declared.faults.GameFault.{GameFault}
use Rattle.game_text.specs.declared.parsed.Parsed.{Parsed}
use Rattle.game_text.specs.Reading.{game_of}
use Rattle.command_runs.specs.OneGame.{last_position}
use Rattle.uhp_session.specs.Answers.{CurrentGame, best_text, joined}
use Rattle.hive_library.specs.Rooms.{Answer}
use Rattle.hive_library.specs.declared.faults.Fault.{Fault}
use Rattle.hive_library.specs.declared.faults.Fault.TheVariants.{NoGame, OutOfRange, Unreadable, NotInPlay, NotLegal, GameOver, FullGame}

-- The game of a line

abbrev pub or_no_game : Result Parsed GameFault → Result Parsed Fault
or_no_game (Ok game) = Ok game
or_no_game (Err fault) = Err NoGame

-- the game that a line is, if the line is not too long
unfoldable pub game_in : List ℕ → Result Parsed Fault
game_in line = if nat_le (length line) greatest_line then or_no_game (game_of line) else Err NoGame

-- the answer about the game, if there is one
abbrev pub of_game : Result Parsed Fault → (Parsed → Answer) → Answer
of_game (Ok game) answer = answer game
of_game (Err fault) answer = Err fault

-- the answer if the game goes on
abbrev pub while_on : Parsed → Answer → Answer
while_on game answer = if is_over (last_position game) then Err GameOver else answer

-- a game under way is at the end of this one
pub record IsAt (history : History) (game : Parsed) : Type 0 where
  pub kind : history.game_type ≡ game.game_type
  pub made : history.made ≡ game.moves

-- The answers

-- the written form of a game
abbrev pub string_of : Parsed → Answer
string_of game = Ok (string_under false game.game_type game.moves)

abbrev pub written_answer : List ℕ → Answer
written_answer line = of_game (game_in line) string_of

-- the legal moves, written, with semicolons between them
abbrev pub moves_text : Parsed → List ℕ
moves_text game = joined (map (text (last_position game).board) (moves (last_position game)))

abbrev pub moves_answer : List ℕ → Answer
moves_answer line = of_game (game_in line) (λ game. while_on game (Ok (moves_text game)))

-- the game in a session, under the rules alone
abbrev pub begun : Parsed → CurrentGame
begun game = record { game_type = game.game_type; made = game.moves; repetition = false }

-- the answer if a number is in this range
abbrev pub in_range : ℕ → ℕ → ℕ → Answer → Answer
in_range least most number answer =
    if nat_le least number && nat_le number most then answer else Err OutOfRange

-- the first of the moves that are worth most, from 1 to 64 plies deep, written
abbrev pub best_answer : List ℕ → ℕ → Answer
best_answer line depth =
    in_range 1 64 depth
    (of_game (game_in line) (λ game. while_on game (Ok (best_text (begun game) depth))))

-- One move more

-- the fault of a text that is no move on the board
abbrev pub move_fault : MoveFault → Fault
move_fault (NotAMove at) = Unreadable
move_fault NoSuchPiece = Unreadable
move_fault (NoneThere piece) = NotInPlay

abbrev pub if_legal : Position → Result Move MoveFault → Result Move Fault
if_legal p (Err fault) = Err (move_fault fault)
if_legal p (Ok m) = if is_listed p m then Ok m else Err NotLegal

-- the legal move of a position that the words denote, if they are not too long
unfoldable pub move_in : GameType → Position → List ℕ → Result Move Fault
move_in t p words =
    if nat_le (length words) greatest_line then if_legal p (move_of t p.board words)
    else Err Unreadable

-- the written form of the game with this move added to its own
abbrev pub with_last : Parsed → Result Move Fault → Answer
with_last game (Ok m) = Ok (string_under false game.game_type (game.moves ++ m ∷ []))
with_last game (Err fault) = Err fault

-- the same for the words of a move; a game has no more than 5,000 moves
abbrev pub behind : Parsed → List ℕ → Answer
behind game words =
    if nat_le 5000 (length game.moves) then Err FullGame
    else with_last game (move_in game.game_type (last_position game) words)

abbrev pub after_answer : List ℕ → List ℕ → Answer
after_answer line words = of_game (game_in line) (λ game. while_on game (behind game words))
