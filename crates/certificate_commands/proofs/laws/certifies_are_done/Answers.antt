use Rattle.command_runs.proofs.GameRunLemmas.{game_run_done}
use Rattle.certificate_commands.specs.Certifying.{certificates_of}
use Rattle.certificate_commands.proofs.laws.certifies_are_done.Goals as goal

pub returns : goal.returns
returns c = λ depth. game_run_done (certificates_of depth)
