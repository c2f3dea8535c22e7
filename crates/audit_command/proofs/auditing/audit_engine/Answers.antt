-- What is written reports the audit that was run.
use Rattle.std.proofs.Common.{◌∙◌}
use Rattle.command_runs.specs.World.{sides, world}
use Rattle.audit_command.proofs.Closing.{none_failed, none_open, played_from, started_as, told_as}
use Rattle.audit_command.proofs.auditing.audit_engine.Goals as goal

pub returns-in-Ok-audit_and_close-clause-run : goal.returns-in-Ok-audit_and_close-clause-run
returns-in-Ok-audit_and_close-clause-run g c rest times =
    let old = g.P.Spawner.engines c.args.spawner.now in
    let new = g.P.Spawner.engines c.audit_and_close.new.spawner in
    told_as c.args.plan c.in-Ok-audit_and_close.auditor c.tell.result (world (sides rest (g.K.Sink.written c.args.output.now)) times old) (world (sides rest (g.K.Sink.written c.tell.new.output)) times new)
    (played_from c.args.plan c.in-Ok-audit_and_close.auditor _ _ old (g.P.Spawner.engines c.start.new.self) new c.in-Ok.ensures.next c.in-Ok-audit_and_close.ensures.none_started.to_come c.in-Ok.ensures.others.1 c.in-Ok.ensures.others.0 c.in-Ok-audit_and_close.ensures.audited)
    c.tell.ensures.told

pub returns-in-Ok-audit_and_close-clause-started : goal.returns-in-Ok-audit_and_close-clause-started
returns-in-Ok-audit_and_close-clause-started g c =
    started_as c.in-Ok-audit_and_close.auditor.text c.in-Ok-audit_and_close.auditor.findings c.tell.result (g.K.Sink.written c.args.output.now) (g.K.Sink.written c.tell.new.output) _ _ _ c.tell.ensures.told
    (c.in-Ok-audit_and_close.ensures.none_started.started ∙ c.in-Ok.ensures.named)

pub returns-in-Ok-audit_and_close-clause-ends : goal.returns-in-Ok-audit_and_close-clause-ends
returns-in-Ok-audit_and_close-clause-ends g c = record {
  closed = none_open (g.P.Spawner.engines c.args.spawner.now) (g.P.Spawner.engines c.start.new.self) (g.P.Spawner.engines c.audit_and_close.new.spawner) _ _ _ c.in-Ok.ensures.next c.in-Ok-audit_and_close.ensures.none_started.to_come c.in-Ok.ensures.others.1 c.in-Ok-audit_and_close.ensures.closes.1;
  writes = c.tell.ensures.cause;
  starts =
      none_failed c.in-Ok-audit_and_close.auditor.text c.in-Ok-audit_and_close.auditor.findings c.tell.result (g.K.Sink.written c.args.output.now) (g.K.Sink.written c.tell.new.output) _ _ c.tell.ensures.told
      (c.in-Ok-audit_and_close.ensures.none_started.starts ∙ c.in-Ok.ensures.cause.same (λ x. cc));
}
