use Rattle.std.proofs.Common.{◌≡◌}
use Rattle.count_share.proofs.ClassLaws.{AreFirst}
use Rattle.count_share.proofs.classes.classes_of.Given as goal

abbrev pub invariant-loop-i : goal.invariant-loop-i
invariant-loop-i g l = record {
  game : g.G.Game.history l.game ≡ g.G.Game.history l.fn.game;
  first : AreFirst (g.G.Game.history l.fn.game) l.i l.classes.items;
}
