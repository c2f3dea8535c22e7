use Rattle.grow_game.proofs.TurnLaws.{AreForward}
use Rattle.grow_game.proofs.plies.play_all.Given as goal

abbrev pub invariant-loop-ply : goal.invariant-loop-ply
invariant-loop-ply g l = AreForward (g.G.Game.history l.fn.game) l.plies l.ply-index (g.G.Game.history l.game)
