use Rattle.std.proofs.Common.{◌≡◌, ◌-◌, false}
use Rattle.io_edge.specs.Starts.{Engines}
use Rattle.line_feed.specs.Feed.{input_limit, settled}
use Rattle.command_runs.specs.World.{sides, times, world}
use Rattle.line_services.specs.Rounds.{service_state}
use Rattle.line_services.proofs.Progress.{Run}
use Rattle.line_services.proofs.service.serve.Given as goal

abbrev pub invariant-lines : goal.invariant-lines
invariant-lines g l = record {
  run : (engines : Engines)
      → Run g.V.LineService.service
      (world (sides (g.S.Source.rest l.fn.input) (g.K.Sink.written l.fn.output)) (times (g.C.Clock.last l.fn.clock) (g.C.Clock.readings l.fn.clock) l.fn.timed) engines)
      (service_state l.service l.reader (sides (g.S.Source.rest l.input) (g.K.Sink.written l.output)) (times (g.C.Clock.last l.clock) (g.C.Clock.readings l.clock) l.timed));
  reads : g.S.Source.read_faults l.input ≡ g.S.Source.read_faults l.fn.input;
  writes : g.K.Sink.write_faults l.output ≡ g.K.Sink.write_faults l.fn.output;
  clock : g.V.LineService.takes_time ≡ false → l.clock ≡ l.fn.clock;
  timed : g.V.LineService.takes_time ≡ false → l.timed ≡ l.fn.timed;
}

abbrev pub decreases-lines : goal.decreases-lines
decreases-lines g l = input_limit - settled l.reader
