use Rattle.bug_moves.specs.Adding.{Gains, InFirst}
use Rattle.bug_moves.proofs.ways.add_slides.Given as goal

abbrev pub invariant-loop-dir : goal.invariant-loop-dir
invariant-loop-dir g l = Gains (g.B.Board.stacks l.board) (InFirst l.dir-index (g.W.GroundWay.toward l.way (g.B.Board.stacks l.board) l.from)) l.initial.out.items l.out.items
