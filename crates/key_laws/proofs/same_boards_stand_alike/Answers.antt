use Rattle.key_laws.proofs.Standing.{stand_alike}
use Rattle.key_laws.proofs.same_boards_stand_alike.Goals as goal

pub returns : goal.returns
returns c = stand_alike
