use Rattle.std.proofs.Common.{◌≡◌, take}
use Rattle.audit_core.proofs.lists.moves_made.Given as goal

abbrev pub invariant-loop-i : goal.invariant-loop-i
invariant-loop-i g l = l.made ≡ take l.i (g.G.Game.history l.game).made
