use Rattle.cut_keeper.proofs.KeepingLaws.{AreMarked}
use Rattle.cut_keeper.proofs.updating.mark_all_by_arcs.Given as goal

abbrev pub invariant-loop-x : goal.invariant-loop-x
invariant-loop-x g l = AreMarked (g.B.Board.stacks l.board) l.marks l.x
