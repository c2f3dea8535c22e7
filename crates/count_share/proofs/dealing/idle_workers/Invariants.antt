use Rattle.std.proofs.Common.{◌≡◌, length}
use Rattle.hive_model.specs.Histories.{position}
use Rattle.count_share.specs.Shares.{AreIdle}
use Rattle.count_share.proofs.dealing.idle_workers.Given as goal

abbrev pub invariant-loop-made : goal.invariant-loop-made
invariant-loop-made g l = record {
  idle : AreIdle (position (g.G.Game.history l.fn.game)) l.plies l.workers.items;
  count : length l.workers.items ≡ l._made;
}
