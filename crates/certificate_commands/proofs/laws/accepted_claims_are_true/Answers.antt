use Rattle.certificate_commands.proofs.CheckLaws.{accepted-true}
use Rattle.certificate_commands.proofs.laws.accepted_claims_are_true.Goals as goal

pub returns : goal.returns
returns c = accepted-true
