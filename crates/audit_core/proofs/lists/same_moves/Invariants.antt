use Rattle.std.proofs.Common.{◌≡◌, length}
use Rattle.audit_core.specs.Judging.{same_moves}
use Rattle.audit_core.proofs.lists.same_moves.Given as goal

abbrev pub invariant-moves : goal.invariant-moves
invariant-moves l = same_moves l.left l.right ≡ same_moves l.moves l.others

abbrev pub decreases-moves : goal.decreases-moves
decreases-moves l = length l.left
