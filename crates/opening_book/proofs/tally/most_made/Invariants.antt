use Rattle.opening_book.specs.Plies.{IsMost}
use Rattle.opening_book.proofs.tally.most_made.Given as goal

abbrev pub invariant-loop-i : goal.invariant-loop-i
invariant-loop-i l = IsMost l.counts l.i l.place l.most
