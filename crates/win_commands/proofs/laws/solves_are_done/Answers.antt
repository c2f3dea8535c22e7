use Rattle.command_runs.proofs.GameRunLemmas.{game_run_done}
use Rattle.win_commands.specs.Text.{solution_of}
use Rattle.win_commands.proofs.laws.solves_are_done.Goals as goal

pub returns : goal.returns
returns c = λ plies. game_run_done (solution_of plies)
