use Rattle.command_runs.proofs.GameRunLemmas.{game_run_done}
use Rattle.count_command.specs.Count.{counts_of}
use Rattle.count_command.proofs.laws.counts_are_done.Goals as goal

pub returns : goal.returns
returns c = λ plies. game_run_done (counts_of plies)
