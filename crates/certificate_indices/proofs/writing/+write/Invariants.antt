use Rattle.std.proofs.Common.{◌≡◌, ◌+◌, ◌*◌, Bool}
use Rattle.hive_model.specs.Legal.{moves}
use Rattle.hive_model.specs.Histories.{position}
use Rattle.search_laws.specs.Nodes.{AreAsBefore}
use Rattle.io_edge.specs.Outside.{Told}
use Rattle.certificate_walks.specs.Follows.{range_of}
use Rattle.certificate_indices.specs.Writing.{Wrote, lines_below}
use Rattle.certificate_indices.proofs.writing.+write.Given as goal

abbrev pub decreases-write_moves : goal.decreases-write_moves
decreases-write_moves g l = 4 * l.depth + 5

abbrev pub decreases-write_child : goal.decreases-write_child
decreases-write_child g l = 4 * l.depth + 4

abbrev pub decreases-write_indices : goal.decreases-write_indices
decreases-write_indices g l = 4 * l.depth + 3

abbrev pub decreases-write_node : goal.decreases-write_node
decreases-write_node g l = 4 * l.depth + 2

-- what is written for the moves that are left continues what was written for those before
abbrev pub invariant-write_moves-loop-i : goal.invariant-write_moves-loop-i
invariant-write_moves-loop-i g l =
    let p = position (g.G.Game.history l.fn.game) in
    record {
      before : AreAsBefore (g.G.Game.history l.fn.game) (g.G.Game.history l.game) l.fn.stack l.stack;
      same : g.J.Judge.prepared l.judge ≡ g.J.Judge.prepared l.fn.judge;
      faults : g.K.Sink.write_faults l.sink ≡ g.K.Sink.write_faults l.fn.sink;
      wrote : (r : Bool) (b : Told) → Wrote r (lines_below p l.fn.depth l.fn.limit (range_of (moves p) l.i l.fn.to)) (g.K.Sink.written l.sink) b
          → Wrote r (lines_below p l.fn.depth l.fn.limit (range_of (moves p) l.fn.from l.fn.to)) (g.K.Sink.written l.fn.sink) b;
    }
