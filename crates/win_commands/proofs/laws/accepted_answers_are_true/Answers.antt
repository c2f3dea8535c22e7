use Rattle.win_commands.proofs.VerdictLaws.{accepted-true}
use Rattle.win_commands.proofs.laws.accepted_answers_are_true.Goals as goal

pub returns : goal.returns
returns c = accepted-true
