use Rattle.search_laws.specs.Nodes.{AreAsBefore}
use Rattle.win_solver.proofs.reaching.deepen.Given as goal

abbrev pub invariant-loop-shallow : goal.invariant-loop-shallow
invariant-loop-shallow g l =
    record {
      before : AreAsBefore (g.G.Game.history l.fn.game) (g.G.Game.history l.game) l.fn.space.stack l.space.stack;
    }
