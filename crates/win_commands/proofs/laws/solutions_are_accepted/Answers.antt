use Rattle.win_commands.proofs.RoundLaws.{accepted}
use Rattle.win_commands.proofs.laws.solutions_are_accepted.Goals as goal

pub returns : goal.returns
returns c = accepted
