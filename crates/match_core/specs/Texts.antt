-- The lines that are sent, and the move that a line denotes.
use Rattle.std.specs.Prelude.{ℕ, List, [], ◌∷◌, ◌++◌, codes, decimal, Result}
use Rattle.hive_model.specs.declared.places.Move.{Move}
use Rattle.hive_model.specs.declared.places.Move.TheVariants.{Pass, To}
use Rattle.hive_model.specs.declared.pieces.GameType.{GameType}
use Rattle.hive_model.specs.Boards.{Stacks}
use Rattle.hive_model.specs.Positions.{Position}
use Rattle.hive_model.specs.Fields.{type_bytes}
use Rattle.hive_model.specs.Denotes.{text}
use Rattle.hive_model.specs.Strings.{string}
use Rattle.move_text.specs.declared.faults.MoveFault.{MoveFault}
use Rattle.move_text.specs.Moves.{move_of}
use Rattle.move_text.specs.Readers.{time_bytes}
use Rattle.match_core.specs.declared.setup.Level.{Level}
use Rattle.match_core.specs.declared.setup.Level.TheVariants.{Depth, Time}
use Rattle.match_core.specs.Setups.{FullSetup}

-- the move that a line denotes on a board, or why it denotes none
unfoldable pub read_of : GameType → Stacks → List ℕ → Result Move MoveFault
read_of t b line = move_of t b line

-- no line that is sent is longer, except the one that begins the game
abbrev pub most_sent : ℕ
most_sent = 64

-- The game with which a match begins: only its type for the opening, otherwise its string, in which
-- only the rules decide the state. The engines are not sent the rule of third repetition.
abbrev pub begin_text : GameType → List Move → List ℕ
begin_text t [] = type_bytes t
begin_text t (m ∷ ms) = string t (m ∷ ms)

-- the line that asks an engine to begin the game of the match
unfoldable pub begin_line : FullSetup → List ℕ
begin_line setup =
    codes "newgame " ++ begin_text setup.game_type setup.begin ++ codes "\n"

-- the line that asks the side to move for its best move
unfoldable pub ask_line : Level → List ℕ
ask_line (Depth depth) = codes "bestmove depth " ++ decimal depth ++ codes "\n"
ask_line (Time budget margin) = codes "bestmove time " ++ time_bytes budget ++ codes "\n"

-- the line that sends a move, which is made in this position
unfoldable pub tell_line : Position → Move → List ℕ
tell_line p Pass = codes "pass\n"
tell_line p (To x place) = codes "play " ++ text p.board (To x place) ++ codes "\n"
