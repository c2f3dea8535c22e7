use Rattle.euler.proofs.EulerBoards.{law_many}
use Rattle.euler.proofs.laws.many_arcs_are_a_cut.Goals as goal

pub returns : goal.returns
returns c = law_many
