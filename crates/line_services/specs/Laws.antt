-- What follows from the clauses of a run.
use Rattle.std.specs.Prelude.{◌≡◌, ◌⊎◌, ℕ, Bool, false, List, []}
use Rattle.io_edge.specs.Lines.{Line, lines}
use Rattle.line_services.specs.Service.{HasExit, last_of, output, searches}
use Rattle.line_services.specs.Replay.{ReplayRun, answers, replays, some_refused}
use Rattle.line_services.specs.Session.{SessionRun}
use Rattle.command_runs.specs.Served.{Served}
use Rattle.command_runs.specs.World.{World}
use Rattle.command_runs.specs.declared.status.Status.{Status}
use Rattle.command_runs.specs.declared.status.Status.TheVariants.{Done, Memory}

-- If the streams served the run, a session ends with `Done`, or because memory ran out.
abbrev pub SessionsAreDone : Type 0
SessionsAreDone =
    (status : Status) → (before : World) → (after : World) → SessionRun status before after
    → (input : List ℕ) → Served status before.sides input
    → (status ≡ Done) ⊎ (status ≡ Memory)

-- Let each line of the input be a game under the rule of the replay. If the streams served the run,
-- the replay ends with `Done`, or because memory ran out.
abbrev pub ReplaysAreDone : Type 0
ReplaysAreDone =
    (r : Bool) → (status : Status) → (before : World) → (after : World)
    → ReplayRun r status before after
    → (input : List ℕ) → Served status before.sides input → some_refused r (lines input) ≡ false
    → (status ≡ Done) ⊎ (status ≡ Memory)

-- How a replay treats lines. It answers each of them, one after another, and none ends it. It has
-- refused a line exactly if one of them is refused. None asks for a search, so no depth is used.
pub record Replays (r : Bool) (left : List ℕ) (ls : List Line) : Type 0 where
  pub writes : output (replays r) left ls ≡ answers r ls
  pub refuses : last_of (replays r) false left ls ≡ some_refused r ls
  pub goes_on : ¬ HasExit (replays r) false left ls
  pub asks : searches (replays r) false left ls ≡ []

abbrev pub ReplaysAnswerEachLine : Type 0
ReplaysAnswerEachLine = (r : Bool) → (left : List ℕ) → (ls : List Line) → Replays r left ls
