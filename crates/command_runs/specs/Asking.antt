-- How the one game of an input is read: first its line, and then the end of the input.
use Rattle.std.specs.Prelude.{◌≡◌, ◌≢◌, ◌⊎◌, ℕ, ◌<◌, ◌≤◌, false, List, length, codes, Result, Ok, Err}
use Rattle.io_edge.specs.Outside.{Told}
use Rattle.hive_model.specs.Histories.{History, position}
use Rattle.hive_model.specs.Legal.{is_over}
use Rattle.io_edge.specs.Lines.{Line}
use Rattle.line_feed.specs.Feed.{Reading, Ends, Gives, Holds, HoldsLittle, Takes, input_limit}
use Rattle.game_text.specs.declared.faults.GameFault.{GameFault}
use Rattle.game_text.specs.declared.faults.GameFault.TheVariants.{Memory as NoMemory}
use Rattle.game_text.specs.declared.parsed.Parsed.{Parsed}
use Rattle.command_runs.specs.OneGame.{bad_line, game_in}
use Rattle.command_runs.specs.Reasons.{reason}
use Rattle.command_runs.specs.declared.no_game.NoGame.{NoGame}
use Rattle.command_runs.specs.declared.no_game.NoGame.TheVariants.{Bad, ReadFault, InputFull, Memory}

-- A game

-- The game in progress has reached the end of a game that was read.
pub record IsReplayOf (history : History) (game : Parsed) : Type 0 where
  pub kind : history.game_type ≡ game.game_type
  pub made : history.made ≡ game.moves

-- The game in progress is not over, and has at most 5,000 moves.
pub record IsUnderWay (history : History) : Type 0 where
  pub open_ : is_over (position history) ≡ false
  pub few : length history.made ≤ 5000

-- The answer is a game, and the game in progress has reached its end.
abbrev pub Resumes : History → Result Parsed (List ℕ) → Type 0
Resumes history answer = (game : Parsed) × (answer ≡ Ok game) × IsReplayOf history game

-- No game

-- The line with this reason is to be written, or memory ran out.
abbrev pub Says : NoGame → List ℕ → Type 0
Says (Bad text) why = text ≡ bad_line why
Says ReadFault why = ⊥
Says InputFull why = ⊥
Says Memory why = Unit {0}

-- The same for a fault of a text. Running out of memory is not one.
abbrev pub SaysFault : NoGame → GameFault → Type 0
SaysFault (Bad text) fault = (fault ≢ NoMemory) × (text ≡ bad_line (reason fault))
SaysFault ReadFault fault = ⊥
SaysFault InputFull fault = ⊥
SaysFault Memory fault = Unit {0}

-- The answer is not a game, and the line with its reason is to be written; or memory ran out.
abbrev pub Lacks : NoGame → Result Parsed (List ℕ) → Type 0
Lacks (Bad text) answer = (why : List ℕ) × (answer ≡ Err why) × (text ≡ bad_line why)
Lacks ReadFault answer = ⊥
Lacks InputFull answer = ⊥
Lacks Memory answer = Unit {0}

-- The reading

-- These bytes were read. The reader is within its limit and holds little.
pub record WereTaken (bytes : List ℕ) (old new : Reading) (before after : Told) : Type 0 where
  pub takes : Takes before after old.taken new.taken bytes
  pub within : new.taken ≤ input_limit
  pub little : HoldsLittle new

-- a line was given
abbrev pub GivesLine : List ℕ → Reading → Reading → Told → Type 0
GivesLine bytes old new rest = (line : Line) × Gives old bytes line new rest

-- The line that was given is a game, and the game in progress has reached its end.
abbrev pub GivesGame : History → List ℕ → Reading → Reading → Told → Type 0
GivesGame history bytes old new rest =
    (line : Line) × Gives old bytes line new rest × Resumes history (game_in line)

-- The line that was given is not a game, for this reason.
abbrev pub GivesOther : List ℕ → List ℕ → Reading → Reading → Told → Type 0
GivesOther why bytes old new rest =
    (line : Line) × Gives old bytes line new rest × (game_in line ≡ Err why)

-- No game was read: the line is not one, there is no line, a read failed, the limit was reached, or
-- memory ran out.
abbrev pub GivesNone : NoGame → List ℕ → Reading → Reading → Told → Type 0
GivesNone (Bad text) bytes old new rest =
    ((why : List ℕ) × GivesOther why bytes old new rest × (text ≡ bad_line why))
    ⊎ (Ends old bytes new rest × (text ≡ bad_line (codes "no line")))
GivesNone ReadFault bytes old new rest = Holds old bytes new × (new.taken < input_limit)
GivesNone InputFull bytes old new rest = Holds old bytes new × (new.taken ≡ input_limit)
GivesNone Memory bytes old new rest = GivesLine bytes old new rest ⊎ Ends old bytes new rest

-- The input did not end: a line was given, a read failed, the limit was reached, or memory ran out
-- for the line that says so.
abbrev pub GoesOn : NoGame → List ℕ → Reading → Reading → Told → Type 0
GoesOn (Bad text) bytes old new rest =
    GivesLine bytes old new rest × (text ≡ bad_line (codes "more lines"))
GoesOn ReadFault bytes old new rest = Holds old bytes new × (new.taken < input_limit)
GoesOn InputFull bytes old new rest = Holds old bytes new × (new.taken ≡ input_limit)
GoesOn Memory bytes old new rest = GivesLine bytes old new rest
