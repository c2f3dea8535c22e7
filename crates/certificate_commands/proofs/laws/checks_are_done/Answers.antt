use Rattle.certificate_verdicts.proofs.JudgeLaws.{accepted-done}
use Rattle.certificate_commands.specs.Verdicts.{verdict}
use Rattle.certificate_commands.proofs.laws.checks_are_done.Goals as goal

pub returns : goal.returns
returns c = accepted-done 5 verdict
