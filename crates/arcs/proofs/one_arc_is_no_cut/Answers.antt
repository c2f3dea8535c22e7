use Rattle.arcs.proofs.ArcBoards.{one_arc_no_cut}
use Rattle.arcs.proofs.one_arc_is_no_cut.Goals as goal

pub returns : goal.returns
returns c = one_arc_no_cut
