use Rattle.arcs.proofs.ArcBoards.{law}
use Rattle.arcs.proofs.one_arc_law.Goals as goal

pub returns : goal.returns
returns c = law
