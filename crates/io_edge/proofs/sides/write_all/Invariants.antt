use Rattle.std.proofs.Common.{◌≡◌, ◌≤◌, ◌-◌, length, take}
use Rattle.io_edge.specs.Outside.{behind}
use Rattle.io_edge.proofs.sides.write_all.Given as goal

abbrev pub invariant-loop-done : goal.invariant-loop-done
invariant-loop-done g l = record {
  within : l.done ≤ length l.bytes;
  written : g.K.Sink.written l.sink ≡ behind (g.K.Sink.written l.initial.sink) (take l.done l.bytes);
  same : g.K.Sink.write_faults l.sink ≡ g.K.Sink.write_faults l.initial.sink;
  aside : g.K.Sink.sink_aside l.sink ≡ g.K.Sink.sink_aside l.initial.sink;
  untouched : l.done ≡ 0 → l.sink ≡ l.initial.sink;
}

abbrev pub decreases-loop-done : goal.decreases-loop-done
decreases-loop-done g l = length l.bytes - l.done
