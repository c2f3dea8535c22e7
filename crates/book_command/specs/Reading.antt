-- How the lines of an input are read, one game at a time.
use Rattle.std.specs.Prelude.{◌≡◌, ℕ, ◌+◌, ◌<◌, ◌≤◌, List, [], ◌∷◌, ◌++◌, length, Option, Some, None, Ok}
use Rattle.io_edge.specs.Outside.{Told}
use Rattle.hive_model.specs.Histories.{History}
use Rattle.io_edge.specs.Lines.{Line, lines}
use Rattle.hive_model.specs.Positions.{Position}
use Rattle.line_feed.specs.Feed.{Reading, Gives, Holds, HoldsLittle, input_limit}
use Rattle.line_feed.specs.SoFar.{Fed}
use Rattle.game_text.specs.declared.parsed.Parsed.{Parsed}
use Rattle.opening_book.specs.Book.{Counts, IsTally, BookGame}
use Rattle.command_runs.specs.Input.{IsAllRead}
use Rattle.command_runs.specs.OneGame.{bad_line, game_in}
use Rattle.command_runs.specs.declared.no_game.NoGame.{NoGame}
use Rattle.command_runs.specs.declared.no_game.NoGame.TheVariants.{Bad, ReadFault, InputFull, Memory}
use Rattle.book_command.specs.Asked.{Asks, played_in}
use Rattle.book_command.specs.Text.{refusal}

-- A further line

-- the game played to reach this history
abbrev pub played_by : History → BookGame
played_by history = record { game_type = history.game_type; made = history.made }

-- The line that was given is a game, and this history is at its end. Each of its plies took a byte.
pub record GivesPlayed (history : History) (bytes : List ℕ) (old new : Reading) (rest : Told)
    (line : Line) : Type 0 where
  pub gives : Gives old bytes line new rest
  pub game : played_in line ≡ Some (played_by history)
  pub long : old.passed + length history.made < new.passed

-- the text of the line with this number is no game, and the line that refuses it is to be written;
-- or memory ran out
abbrev pub LacksGame : NoGame → ℕ → Option BookGame → Type 0
LacksGame (Bad text) number game = (game ≡ None) × (text ≡ bad_line (refusal number))
LacksGame ReadFault number game = ⊥
LacksGame InputFull number game = ⊥
LacksGame Memory number game = Unit {0}

-- the line that was given is no game
abbrev pub GivesOther : List ℕ → Reading → Reading → Told → Type 0
GivesOther bytes old new rest =
    (line : Line) × Gives old bytes line new rest × (played_in line ≡ None)

-- No game was given: the line with this number is none, a read failed, the limit is reached, or
-- memory ran out.
abbrev pub GivesNone : NoGame → ℕ → List ℕ → Reading → Reading → Told → Type 0
GivesNone (Bad text) number bytes old new rest =
    GivesOther bytes old new rest × (text ≡ bad_line (refusal number))
GivesNone ReadFault number bytes old new rest = Holds old bytes new × (new.taken < input_limit)
GivesNone InputFull number bytes old new rest = Holds old bytes new × (new.taken ≡ input_limit)
GivesNone Memory number bytes old new rest = (line : Line) × Gives old bytes line new rest

-- The whole input

-- the first line of the input was given, and is a game that is not over
pub record HasBegun (input : List ℕ) (start : Parsed) (reader : Reading) (rest : Told)
    : Type 0 where
  pub bytes : List ℕ
  pub line : Line
  pub fed : Fed (Some input) rest reader bytes (line ∷ [])
  pub opens : game_in line ≡ Ok start
  pub within : reader.taken ≤ input_limit
  pub little : HoldsLittle reader

-- the lines of the input ask about this position and have these games, and the input was read to
-- its end
pub record IsWhole (input : List ℕ) (rest : Told) (start : Parsed) (games : List BookGame)
    : Type 0 where
  pub asks : Asks (lines input) start games
  pub over : IsAllRead input rest

-- The counts

-- a tally of a position over some games is now one over these games too
abbrev pub Counted : List BookGame → Counts → Counts → Type 0
Counted games old new =
    (p : Position) (before : List BookGame) → IsTally p before old → IsTally p (before ++ games) new
