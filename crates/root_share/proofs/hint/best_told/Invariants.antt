use Rattle.std.proofs.Common.{◌≡◌}
use Rattle.root_share.proofs.hint.best_told.Given as goal

-- the game has not changed
abbrev pub invariant-loop-child : goal.invariant-loop-child
invariant-loop-child g l = record {
  same : g.G.Game.history l.game ≡ g.G.Game.history l.fn.game;
  count : g.G.Game.played l.game ≡ g.G.Game.played l.fn.game;
}
