use Rattle.grow_command.proofs.TextLaws.{best-told}
use Rattle.grow_command.proofs.laws.best_moves_are_told.Goals as goal

pub returns : goal.returns
returns c = best-told
