use Rattle.std.proofs.Common.{◌≡◌, ◌-◌}
use Rattle.io_edge.specs.Outside.{behind}
use Rattle.hive_model.specs.Histories.{position}
use Rattle.count_command.specs.Count.{count_text}
use Rattle.count_command.proofs.counts.write_counts.Given as goal

abbrev pub invariant-loop-n : goal.invariant-loop-n
invariant-loop-n g l = record {
  game : g.G.Game.history l.game ≡ g.G.Game.history l.fn.game;
  stack : l.stack ≡ l.fn.stack;
  wrote : g.K.Sink.written l.output ≡ behind (g.K.Sink.written l.fn.output) (count_text (position (g.G.Game.history l.fn.game)) (l.n - 1));
  faults : g.K.Sink.write_faults l.output ≡ g.K.Sink.write_faults l.fn.output;
}
