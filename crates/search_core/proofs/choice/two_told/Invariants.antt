use Rattle.std.proofs.Common.{◌≡◌}
use Rattle.search_core.proofs.choice.two_told.Given as goal

-- the game is as before
abbrev pub invariant-loop-i : goal.invariant-loop-i
invariant-loop-i g l = record {
  same : g.G.Game.history l.game ≡ g.G.Game.history l.fn.game;
  count : g.G.Game.played l.game ≡ g.G.Game.played l.fn.game;
}
