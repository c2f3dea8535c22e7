-- What holds of all that is read, and how the lines of the input are taken, one at a time.
use Rattle.std.specs.Prelude.{◌≡◌, ℕ, ◌<◌, ◌≤◌, Bool, List, [], length, Result, Ok, Err}
use Rattle.std.specs.Bool.{MatchBool}
use Rattle.std.specs.List.{All}
use Rattle.io_edge.specs.Outside.{Told}
use Rattle.io_edge.specs.Lines.{Line}
use Rattle.line_feed.specs.Feed.{Reading, Ends, Gives, Holds, input_limit}
use Rattle.command_runs.specs.OneGame.{bad_line}
use Rattle.command_runs.specs.declared.no_game.NoGame.{NoGame}
use Rattle.command_runs.specs.declared.no_game.NoGame.TheVariants.{Bad, ReadFault, InputFull, Memory as NoMemory}
use Rattle.cup.specs.Engines.{Engine}
use Rattle.tournament_core.specs.Schedules.{schedule}
use Rattle.tournament_record.specs.Openings.{IsOpening}
use Rattle.tournament_command.specs.declared.format.Format.{Format}
use Rattle.tournament_command.specs.declared.phase.Phase.TheVariants.{Openings}
use Rattle.tournament_command.specs.declared.refused.LineFault.{LineFault}
use Rattle.tournament_command.specs.declared.refused.Refused.{Refused}
use Rattle.tournament_command.specs.declared.refused.Refused.TheVariants.{Line as RefusedLine, Memory}
use Rattle.tournament_command.specs.Formats.{plan_of}
use Rattle.tournament_command.specs.Intakes.{Intake, take_line}
use Rattle.tournament_command.specs.Reads.{refusal}

-- 2 to 64 engines play
pub record AreEngines (engines : ℕ) : Type 0 where
  pub some : 2 ≤ engines
  pub few : engines ≤ 64

-- What holds of what was read: each opening is a game of the type that is played, there are at most
-- 100,000, no more games are told than are to be played, and none before the openings have ended.
pub record IsIntake (engines : ℕ) (f : Format) (i : Intake) : Type 0 where
  pub each : All (IsOpening f.setup.game_type) i.openings
  pub few : length i.openings ≤ 100000
  pub within : length i.ends ≤ length (schedule (plan_of f engines i.openings))
  pub none : i.phase ≡ Openings → i.ends ≡ []

-- the answer is that a line is refused so; or memory was wanting
abbrev pub Refuses : Refused → Result Intake LineFault → Type 0
Refuses (RefusedLine fault) answer = answer ≡ Err fault
Refuses Memory answer = Unit {0}

-- why a line is not taken is told: the line that says so is to be written, or memory is wanting
abbrev pub SaysWhy : NoGame → Refused → Type 0
SaysWhy (Bad text) (RefusedLine fault) = text ≡ bad_line (refusal fault)
SaysWhy (Bad text) Memory = ⊥
SaysWhy ReadFault why = ⊥
SaysWhy InputFull why = ⊥
SaysWhy NoMemory why = Unit {0}

-- the line that was given was taken
pub record TakesLine
    (engines : List Engine) (f : Format) (i next : Intake) (bytes : List ℕ) (old new : Reading)
    (rest : Told) (line : Line) : Type 0 where
  pub gives : Gives old bytes line new rest
  pub takes : take_line engines f i line ≡ Ok next

-- the input has ended, and what was read stands
pub record Closes
    (i next : Intake) (bytes : List ℕ) (old new : Reading) (rest : Told) : Type 0 where
  pub ends : Ends old bytes new rest
  pub same : next ≡ i

-- a line was given and taken, or the input has ended
abbrev pub TakesNext :
    List Engine → Format → Intake → Intake → Bool → List ℕ → Reading → Reading → Told → Type 0
TakesNext engines f i next more bytes old new rest =
    MatchBool more ((line : Line) × TakesLine engines f i next bytes old new rest line)
    (Closes i next bytes old new rest)

-- the line that was given is refused, and so is the text that is to be written
pub record RefusesLine
    (engines : List Engine) (f : Format) (i : Intake) (text bytes : List ℕ) (old new : Reading)
    (rest : Told) (line : Line) (fault : LineFault) : Type 0 where
  pub gives : Gives old bytes line new rest
  pub refused : take_line engines f i line ≡ Err fault
  pub told : text ≡ bad_line (refusal fault)

-- no line was taken: one is refused, a read has failed, the limit is reached, or memory is wanting
abbrev pub TakesNone :
    List Engine → Format → Intake → NoGame → List ℕ → Reading → Reading → Told → Type 0
TakesNone engines f i (Bad text) bytes old new rest =
    (line : Line) × (fault : LineFault) × RefusesLine engines f i text bytes old new rest line fault
TakesNone engines f i ReadFault bytes old new rest = Holds old bytes new × (new.taken < input_limit)
TakesNone engines f i InputFull bytes old new rest = Holds old bytes new × (new.taken ≡ input_limit)
TakesNone engines f i NoMemory bytes old new rest = (line : Line) × Gives old bytes line new rest
