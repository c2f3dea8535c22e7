use Rattle.symmetry.proofs.KeptBoards.{legal_placed}
use Rattle.symmetry.proofs.laws.legal_moves_are_placed.Goals as goal

pub returns : goal.returns
returns c = legal_placed
