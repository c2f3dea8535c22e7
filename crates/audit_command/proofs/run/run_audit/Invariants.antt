use Rattle.std.proofs.Common.{◌≡◌, ◌-◌}
use Rattle.line_feed.specs.Feed.{fresh, input_limit, settled}
use Rattle.line_feed.specs.Ahead.{ahead_of}
use Rattle.audit_command.proofs.Progress.{Progress}
use Rattle.audit_command.proofs.Turning.{HasTaken}
use Rattle.audit_command.proofs.run.run_audit.Given as goal

abbrev pub invariant-turns : goal.invariant-turns
invariant-turns g l = record {
  progress : Progress l.fn.plan l.auditor (ahead_of fresh (g.L.Source.rest l.fn.link)) (ahead_of l.reader (g.L.Source.rest l.link)) (g.L.Sink.written l.fn.link) (g.L.Sink.written l.link);
  reads : g.L.Source.read_faults l.link ≡ g.L.Source.read_faults l.fn.link;
  takes : HasTaken (g.L.Source.rest l.fn.link) (g.L.Source.rest l.link) 0 l.reader.taken;
  writes : g.L.Sink.write_faults l.link ≡ g.L.Sink.write_faults l.fn.link;
}

abbrev pub decreases-turns : goal.decreases-turns
decreases-turns g l = input_limit - settled l.reader
