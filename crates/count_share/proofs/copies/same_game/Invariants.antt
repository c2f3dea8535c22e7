use Rattle.std.proofs.Common.{◌≡◌, take}
use Rattle.count_share.proofs.copies.same_game.Given as goal

abbrev pub invariant-loop-i : goal.invariant-loop-i
invariant-loop-i g l = l.moves.items ≡ take l.i (g.G.Game.history l.game).made
