-- A replay as a service, and its run. The answer to each line is the written form of its game, or a
-- refusal, with the rule of third repetition on or off.
use Rattle.std.specs.Prelude.{ℕ, Bool, true, false, ◌||◌, List, [], ◌∷◌, ◌++◌, map, codes, Result, Ok, Err, Some, None}
use Rattle.std.specs.List.{list_any}
use Rattle.io_edge.specs.Lines.{Line, Text, TooLong as LongLine}
use Rattle.hive_model.specs.Strings.{string_under}
use Rattle.game_text.specs.declared.faults.GameFault.{GameFault}
use Rattle.game_text.specs.declared.parsed.Parsed.{Parsed}
use Rattle.game_text.specs.Reading.{game_under}
use Rattle.command_runs.specs.Reasons.{reason}
use Rattle.command_runs.specs.World.{World}
use Rattle.line_services.specs.Service.{Service, joined}
use Rattle.line_services.specs.ServiceRun.{ServiceRun}
use Rattle.command_runs.specs.declared.status.Status.{Status}

-- The answer to a line

-- the line that refuses a line for this reason
abbrev pub refusal : List ℕ → List ℕ
refusal why = codes "refused " ++ (why ++ 10 ∷ [])

-- A game is answered by its written form, whether it is over or not. Any other text is answered by
-- the reason for its refusal.
abbrev pub game_answer : Bool → Result Parsed GameFault → List ℕ
game_answer r (Ok game) = string_under r game.game_type game.moves ++ 10 ∷ []
game_answer r (Err fault) = refusal (reason fault)

abbrev pub is_fault : Result Parsed GameFault → Bool
is_fault (Ok game) = false
is_fault (Err fault) = true

-- the line that answers a line, its LF included
unfoldable pub replay_answer : Bool → Line → List ℕ
replay_answer r (Text bytes) = game_answer r (game_under r bytes)
replay_answer r LongLine = refusal (codes "line too long")

-- the line is refused
unfoldable pub refuses : Bool → Line → Bool
refuses r (Text bytes) = is_fault (game_under r bytes)
refuses r LongLine = true

-- the answers to lines, one after another
abbrev pub answers : Bool → List Line → List ℕ
answers r ls = joined (map (replay_answer r) ls)

-- one of the lines is refused
abbrev pub some_refused : Bool → List Line → Bool
some_refused r ls = list_any (refuses r) ls

-- The run

-- Nothing is written before the first line, and then the answer to each. The state is whether a
-- line was refused. No line ends the run, and none asks for a search.
abbrev pub replays : Bool → Service Bool
replays r = record {
  begins = false;
  preface = [];
  asks = λ refused line. None;
  reply = λ refused line depth. Some (replay_answer r line);
  next = λ refused line. refused || refuses r line;
  has_refused = λ refused. refused;
}

-- what was written and read if a replay ends with this status
abbrev pub ReplayRun : Bool → Status → World → World → Type 0
ReplayRun r status before after = ServiceRun (replays r) status before after
