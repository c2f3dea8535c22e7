use Rattle.std.specs.Vec.Iter.{into_iter_items, into_iter_len}
use Rattle.cup_command.proofs.Left.{IsLeft}
use Rattle.cup_command.proofs.closing.close_links.Given as goal

abbrev pub invariant-loop-job : goal.invariant-loop-job
invariant-loop-job g l = IsLeft l.fn.jobs.items (into_iter_items l.left) (into_iter_len l.left) (g.P.Spawner.engines l.fn.spawner) (g.P.Spawner.engines l.spawner)

abbrev pub decreases-loop-job : goal.decreases-loop-job
decreases-loop-job g l = into_iter_len l.left
