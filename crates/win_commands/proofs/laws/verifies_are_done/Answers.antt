use Rattle.certificate_verdicts.proofs.JudgeLaws.{accepted-done}
use Rattle.win_commands.specs.Verdicts.{verdict}
use Rattle.win_commands.proofs.laws.verifies_are_done.Goals as goal

pub returns : goal.returns
returns c = accepted-done 4 verdict
