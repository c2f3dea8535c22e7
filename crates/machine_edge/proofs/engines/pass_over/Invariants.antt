use Rattle.machine_edge.proofs.engines.pass_over.Given as goal

abbrev pub decreases-loop-left : goal.decreases-loop-left
decreases-loop-left g l = l.left
