use Rattle.grow_game.proofs.TurnLaws.{AreBack}
use Rattle.grow_game.proofs.plies.undo_all.Given as goal

abbrev pub invariant-loop-i : goal.invariant-loop-i
invariant-loop-i g l = AreBack (g.G.Game.history l.fn.game) l.plies l.i (g.G.Game.history l.game) l.undone
