use Rattle.win_commands.proofs.RoundLaws.{solved-accepted}
use Rattle.win_commands.proofs.laws.solved_answers_are_accepted.Goals as goal

pub returns : goal.returns
returns c = solved-accepted
