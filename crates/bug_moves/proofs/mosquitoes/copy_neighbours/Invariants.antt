use Rattle.bug_moves.specs.Adding.{Gains}
use Rattle.bug_moves.specs.Copied.{InKinds, CopiesKind}
use Rattle.bug_moves.proofs.mosquitoes.copy_neighbours.Given as goal

abbrev pub invariant-loop-kind : goal.invariant-loop-kind
invariant-loop-kind g l = Gains (g.B.Board.stacks l.board) (InKinds l.kind-index (CopiesKind (g.B.Board.stacks l.board) l.from)) l.initial.out.items l.out.items
