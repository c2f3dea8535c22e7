use Rattle.win_bounds.proofs.SeenLaws.{IsSeen}
use Rattle.win_bounds.proofs.far.is_far_place.Given as goal

abbrev pub invariant-loop-dir : goal.invariant-loop-dir
invariant-loop-dir g l = IsSeen (g.B.Board.stacks l.board) l.side l.queen l.dir-index l.occupied
