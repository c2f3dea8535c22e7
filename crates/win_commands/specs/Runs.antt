-- What the commands write and read, by the status with which they end.
use Rattle.std.specs.Prelude.{ℕ}
use Rattle.command_runs.specs.Input.{Sides}
use Rattle.command_runs.specs.GameRun.{GameRun}
use Rattle.command_runs.specs.declared.status.Status.{Status}
use Rattle.certificate_verdicts.specs.Runs.{VerdictRun}
use Rattle.win_commands.specs.Text.{solution_of}
use Rattle.win_commands.specs.Verdicts.{verdict}

-- the answer to one game: the least solution of the true answer
abbrev pub SolveRun : ℕ → Status → Sides → Sides → Type 0
SolveRun plies = GameRun (solution_of plies)

-- a check writes the line of the verdict on the lines of the input
abbrev pub VerifyRun : Status → Sides → Sides → Type 0
VerifyRun = VerdictRun 4 verdict
