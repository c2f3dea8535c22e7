use Rattle.pillbug_throws.specs.Throwing.{ComesDown}
use Rattle.pillbug_throws.proofs.ThrowParts.{AreDown}
use Rattle.pillbug_throws.proofs.landing.add_places.Given as goal

abbrev pub invariant-loop-dir : goal.invariant-loop-dir
invariant-loop-dir g l = AreDown (ComesDown (g.B.Board.stacks l.board) (g.L.Board.stacks l.lifted) l.over l.from) l.over l.dir-index l.out.items
