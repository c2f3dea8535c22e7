use Rattle.torus_board.proofs.ResidueLaws.{law}
use Rattle.torus_board.proofs.residues.residues_are_distinct.Goals as goal

pub returns : goal.returns
returns c = law
