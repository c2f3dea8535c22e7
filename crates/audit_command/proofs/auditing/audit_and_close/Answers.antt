use Rattle.audit_command.specs.Wires.{Wire, wire}
use Rattle.audit_command.proofs.Closing.{audited_ok}
use Rattle.audit_command.proofs.Turning.{has_limit}
use Rattle.audit_command.proofs.auditing.audit_and_close.Goals as goal

pub returns-clause-audited : goal.returns-clause-audited
returns-clause-audited g c =
    let w0 : Wire = wire (g.P.Engine.Source.rest c.args.engine) (g.P.Engine.Sink.written c.args.engine) (g.P.Engine.Source.read_faults c.args.engine) (g.P.Engine.Sink.write_faults c.args.engine) in
    let n = c.run_audit-auditor.new.link in
    let w : Wire = wire (g.P.Engine.Source.rest n) (g.P.Engine.Sink.written n) (g.P.Engine.Source.read_faults n) (g.P.Engine.Sink.write_faults n) in
    audited_ok c.run_audit-auditor.result c.args.plan w0 w (g.P.Spawner.engines c.args.spawner.now) (g.P.Spawner.engines c.close_engine.new.spawner) c.requires.fresh.0 c.requires.fresh.1
    c.run_audit-auditor.ensures.over c.close_engine.ensures.counted c.close_engine.ensures.sent

pub returns-clause-full : goal.returns-clause-full
returns-clause-full g c e = has_limit (g.P.Engine.Source.rest c.args.engine) (g.P.Engine.Source.rest c.run_audit-auditor.new.link) (c.run_audit-auditor.ensures.full e)
