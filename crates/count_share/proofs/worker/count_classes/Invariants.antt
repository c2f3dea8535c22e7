use Rattle.std.proofs.Common.{◌≡◌, ◌-◌, take}
use Rattle.hive_model.specs.Histories.{position}
use Rattle.count_share.specs.Classes.{lines_of}
use Rattle.count_share.proofs.worker.count_classes.Given as goal

abbrev pub invariant-loop-i : goal.invariant-loop-i
invariant-loop-i g l = record {
  game : g.G.Game.history l.game ≡ g.G.Game.history l.fn.game;
  stack : l.stack ≡ l.fn.stack;
  total : l.total ≡ lines_of (position (g.G.Game.history l.fn.game)) (l.plies - 1) (take l.i l.classes);
}
