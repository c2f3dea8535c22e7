use Rattle.win_commands.proofs.VerdictLaws.{accepted-holds, held-accepted}
use Rattle.win_commands.proofs.laws.solutions_alone_are_accepted.Goals as goal

pub returns : goal.returns
returns c = λ ls. (accepted-holds ls, λ (head, indices, holds). held-accepted ls head indices holds)
