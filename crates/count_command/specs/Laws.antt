-- When the run of a count is done.
use Rattle.std.specs.Prelude.{ℕ}
use Rattle.command_runs.specs.OneGame.{AsksOne}
use Rattle.command_runs.specs.Served.{RunsAreDone}
use Rattle.count_command.specs.Count.{CountRun}

-- For an input that is exactly one line, a game that is not over: if no read or write failed, the
-- run is done, unless memory ran out.
abbrev pub CountsAreDone : Type 0
CountsAreDone = (plies : ℕ) → RunsAreDone (CountRun plies) AsksOne
