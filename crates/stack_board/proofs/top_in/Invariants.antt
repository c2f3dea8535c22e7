use Rattle.stack_board.specs.Highest.{IsHighest}
use Rattle.stack_board.proofs.top_in.Given as goal

abbrev pub invariant-loop-x : goal.invariant-loop-x
invariant-loop-x l = IsHighest l.spots l.place l.x l.top
