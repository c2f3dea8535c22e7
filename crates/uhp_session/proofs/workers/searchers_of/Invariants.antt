use Rattle.uhp_session.specs.Teams.{AreSearchersOf}
use Rattle.uhp_session.proofs.workers.searchers_of.Given as goal

abbrev pub invariant-loop-made : goal.invariant-loop-made
invariant-loop-made l = AreSearchersOf l._made l.searchers.items
