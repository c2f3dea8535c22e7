use Rattle.certificate_commands.proofs.CheckLaws.{certificate-accepted}
use Rattle.certificate_commands.proofs.laws.certificates_are_accepted.Goals as goal

pub returns : goal.returns
returns c = certificate-accepted
