use Rattle.bug_moves.specs.Adding.{Gains}
use Rattle.bug_moves.specs.Copied.{AmongFirst}
use Rattle.bug_moves.proofs.mosquitoes.add_reach.Given as goal

abbrev pub invariant-loop-index : goal.invariant-loop-index
invariant-loop-index g l = Gains (g.B.Board.stacks l.board) (AmongFirst l.index l.reached.items) l.initial.out.items l.out.items
