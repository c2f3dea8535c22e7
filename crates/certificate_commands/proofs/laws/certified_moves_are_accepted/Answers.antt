use Rattle.certificate_commands.proofs.CheckLaws.{certified-accepted}
use Rattle.certificate_commands.proofs.laws.certified_moves_are_accepted.Goals as goal

pub returns : goal.returns
returns c = certified-accepted
