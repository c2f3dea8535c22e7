use Rattle.std.proofs.Common.{◌-◌, ◌≤◌, length}
use Rattle.one_hive.specs.Walks.{others, AreMarked}
use Rattle.one_hive.proofs.Walking.{Walked}
use Rattle.one_hive.proofs.parting.walk_until.Given as goal

abbrev pub invariant-loop-next : goal.invariant-loop-next
invariant-loop-next g l = record {
  marked : AreMarked (g.B.Board.stacks l.board) l.met.places.items l.met.tops;
  walked : Walked (others (g.B.Board.stacks l.board) l.left_out) l.fn.start l.next l.met.places.items;
  low : l.next ≤ length l.met.places.items;
}

abbrev pub decreases-loop-next : goal.decreases-loop-next
decreases-loop-next g l = 28 - l.next
