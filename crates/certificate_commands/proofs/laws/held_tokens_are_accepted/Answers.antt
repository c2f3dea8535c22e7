use Rattle.certificate_commands.proofs.CheckLaws.{held-cited}
use Rattle.certificate_commands.proofs.laws.held_tokens_are_accepted.Goals as goal

pub returns : goal.returns
returns c = held-cited
