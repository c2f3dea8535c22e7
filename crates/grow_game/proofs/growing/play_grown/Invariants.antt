use Rattle.std.proofs.Common.{◌≡◌, ◌*◌, ◌≤◌}
use Rattle.grow_game.proofs.TurnLaws.{AreGrowing}
use Rattle.grow_game.proofs.growing.play_grown.Given as goal

abbrev pub invariant-loop-ply : goal.invariant-loop-ply
invariant-loop-ply g l = record {
  growing : AreGrowing l.fn.seed l.fn.plies (g.G.Game.history l.fn.game) (g.G.Game.history l.game) l.generator l._ply l.made.items l.chosen;
  small : l.chosen ≤ l._ply * 4294967295;
  stack : l.stack ≡ l.fn.stack;
}
