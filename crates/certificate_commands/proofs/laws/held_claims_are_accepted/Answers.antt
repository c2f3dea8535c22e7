use Rattle.certificate_commands.proofs.CheckLaws.{held-accepted}
use Rattle.certificate_commands.proofs.laws.held_claims_are_accepted.Goals as goal

pub returns : goal.returns
returns c = held-accepted
