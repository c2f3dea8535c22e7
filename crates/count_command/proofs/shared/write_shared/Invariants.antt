use Rattle.std.proofs.Common.{◌≡◌, ◌-◌}
use Rattle.io_edge.specs.Outside.{behind}
use Rattle.count_command.specs.Count.{count_text}
use Rattle.count_command.proofs.shared.write_shared.Given as goal

abbrev pub invariant-loop-n : goal.invariant-loop-n
invariant-loop-n g l = record {
  team : l.team ≡ l.fn.team;
  wrote : g.K.Sink.written l.output ≡ behind (g.K.Sink.written l.fn.output) (count_text l.fn.team.root (l.n - 1));
  faults : g.K.Sink.write_faults l.output ≡ g.K.Sink.write_faults l.fn.output;
}
