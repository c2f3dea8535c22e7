use Rattle.std.proofs.Common.{◌≡◌, take}
use Rattle.uhp_session.proofs.current.first_moves.Given as goal

abbrev pub invariant-loop-i : goal.invariant-loop-i
invariant-loop-i g l = l.moves ≡ take l.i (g.G.Game.history l.game).made
