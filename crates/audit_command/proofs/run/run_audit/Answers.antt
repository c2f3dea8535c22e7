-- The loop over the lines.
use Rattle.std.proofs.Common.{◌≡◌, refl, sym, ◌∙◌, ap, subst, false}
use Rattle.std.proofs.lemmas.Result.{IfOk-weaker}
use Rattle.io_edge.specs.Outside.{Rose}
use Rattle.line_feed.specs.Ahead.{ahead_of}
use Rattle.audit_core.specs.declared.findings.Fault.TheVariants.{Ended, Broke}
use Rattle.audit_core.specs.AuditState.{AuditState, is_ended, break_off}
use Rattle.audit_command.specs.Wires.{Wire, wire}
use Rattle.audit_command.specs.Runs.{RanOver}
use Rattle.audit_command.proofs.Progress.{progress_begin, progress_on, ran_long, ran_over, ran_out, ran_unread, ran_unsent}
use Rattle.audit_command.proofs.Turning.{taken_more, taken_none, took_limit}
use Rattle.audit_command.proofs.run.run_audit.Goals as goal

pub turns-init : goal.turns-init
turns-init g c =
    let a = c.in_ok-auditor.ensures in
    let r = c.in_ok-reader.ensures in
    rw r (record { progress = progress_begin c.args.plan c.in_ok-auditor.auditor _ _ a; reads = refl; takes = taken_none _ 0; writes = refl })

pub turns-smaller : goal.turns-smaller
turns-smaller g c = c.in-Heard.ensures.falls refl

pub turns-preserved : goal.turns-preserved
turns-preserved g c =
    let i = c.turns.invariant in
    let t = c.in-Heard.ensures in
    record {
      progress = progress_on c.args.plan c.turns.auditor c.turn.new.auditor _ _ (ahead_of c.turn.new.reader (g.L.Source.rest c.turn.new.link)) _ _ (g.L.Sink.written c.turn.new.link) i.progress t.turns;
      reads = t.reads.same (λ x. cc) ∙ i.reads;
      takes = taken_more _ _ _ _ _ _ i.takes t.takes;
      writes = t.writes.same (λ x. cc) ∙ i.writes;
    }

pub returns-then-is_over-clause-over : goal.returns-then-is_over-clause-over
returns-then-is_over-clause-over g c =
    let w0 : Wire = wire (g.L.Source.rest c.args.link.now) (g.L.Sink.written c.args.link.now) (g.L.Source.read_faults c.args.link.now) (g.L.Sink.write_faults c.args.link.now) in
    let w : Wire = wire (g.L.Source.rest c.turns.link) (g.L.Sink.written c.turns.link) (g.L.Source.read_faults c.turns.link) (g.L.Sink.write_faults c.turns.link) in
    ran_over c.args.plan c.turns.auditor (ahead_of c.turns.reader (g.L.Source.rest c.turns.link)) w0 w c.turns.invariant.progress (sym c.is_over.ensures ∙ c.if-is_over.true)

pub returns-in-Long-clause-over : goal.returns-in-Long-clause-over
returns-in-Long-clause-over g c =
    let w0 : Wire = wire (g.L.Source.rest c.args.link.now) (g.L.Sink.written c.args.link.now) (g.L.Source.read_faults c.args.link.now) (g.L.Sink.write_faults c.args.link.now) in
    let n = c.turn.new in
    let w : Wire = wire (g.L.Source.rest n.link) (g.L.Sink.written n.link) (g.L.Source.read_faults n.link) (g.L.Sink.write_faults n.link) in
    let goes_on : is_ended (c.turns.auditor).stage ≡ false = sym c.is_over.ensures ∙ c.if-is_over.false in
    ran_long c.args.plan c.turns.auditor n.auditor (ahead_of c.turns.reader (g.L.Source.rest c.turns.link)) (ahead_of n.reader (g.L.Source.rest n.link)) w0 w (g.L.Sink.written c.turns.link) c.turns.invariant.progress goes_on c.in-Long.ensures.turns

pub returns-in-Ended-clause-over : goal.returns-in-Ended-clause-over
returns-in-Ended-clause-over g c =
    let w0 : Wire = wire (g.L.Source.rest c.args.link.now) (g.L.Sink.written c.args.link.now) (g.L.Source.read_faults c.args.link.now) (g.L.Sink.write_faults c.args.link.now) in
    let n = c.turn.new in
    let w : Wire = wire (g.L.Source.rest n.link) (g.L.Sink.written n.link) (g.L.Source.read_faults n.link) (g.L.Sink.write_faults n.link) in
    let s : AuditState = c.turns.auditor in
    let u : AuditState = n.auditor in
    let goes_on : is_ended s.stage ≡ false = sym c.is_over.ensures ∙ c.if-is_over.false in
    IfOk-weaker c.broken.result (λ t. t ≡ break_off u Ended) (λ t. RanOver c.args.plan t w0 w)
    (λ t e. ran_out c.args.plan s u t (ahead_of c.turns.reader (g.L.Source.rest c.turns.link)) (ahead_of n.reader (g.L.Source.rest n.link)) w0 w (g.L.Sink.written c.turns.link) c.turns.invariant.progress goes_on c.in-Ended.ensures.turns e)
    c.broken.ensures.over

pub returns-in-ReadFault-clause-over : goal.returns-in-ReadFault-clause-over
returns-in-ReadFault-clause-over g c =
    let w0 : Wire = wire (g.L.Source.rest c.args.link.now) (g.L.Sink.written c.args.link.now) (g.L.Source.read_faults c.args.link.now) (g.L.Sink.write_faults c.args.link.now) in
    let n = c.turn.new in
    let w : Wire = wire (g.L.Source.rest n.link) (g.L.Sink.written n.link) (g.L.Source.read_faults n.link) (g.L.Sink.write_faults n.link) in
    let s : AuditState = c.turns.auditor in
    let u : AuditState = n.auditor in
    let rose : Rose w0.reads w.reads = subst (λ k. Rose k w.reads) c.turns.invariant.reads (c.in-ReadFault.ensures.reads.rose refl) in
    IfOk-weaker c.broken-in-ReadFault.result (λ t. t ≡ break_off u c.unread.result) (λ t. RanOver c.args.plan t w0 w)
    (λ t e. ran_unread c.args.plan s u t (ahead_of c.turns.reader (g.L.Source.rest c.turns.link)) (ahead_of n.reader (g.L.Source.rest n.link)) w0 w (g.L.Sink.written c.turns.link) c.turns.invariant.progress c.in-ReadFault.ensures.turns (e ∙ ap (break_off u) c.unread.ensures) rose)
    c.broken-in-ReadFault.ensures.over

pub returns-in-WriteFault-clause-over : goal.returns-in-WriteFault-clause-over
returns-in-WriteFault-clause-over g c =
    let w0 : Wire = wire (g.L.Source.rest c.args.link.now) (g.L.Sink.written c.args.link.now) (g.L.Source.read_faults c.args.link.now) (g.L.Sink.write_faults c.args.link.now) in
    let n = c.turn.new in
    let w : Wire = wire (g.L.Source.rest n.link) (g.L.Sink.written n.link) (g.L.Source.read_faults n.link) (g.L.Sink.write_faults n.link) in
    let s : AuditState = c.turns.auditor in
    let u : AuditState = n.auditor in
    let rose : Rose w0.writes w.writes = subst (λ k. Rose k w.writes) c.turns.invariant.writes (c.in-WriteFault.ensures.writes.rose refl) in
    IfOk-weaker c.broken-in-WriteFault.result (λ t. t ≡ break_off u Broke) (λ t. RanOver c.args.plan t w0 w)
    (λ t e. ran_unsent c.args.plan s u t (ahead_of c.turns.reader (g.L.Source.rest c.turns.link)) (ahead_of n.reader (g.L.Source.rest n.link)) w0 w (g.L.Sink.written c.turns.link) c.turns.invariant.progress c.in-WriteFault.ensures.turns e rose)
    c.broken-in-WriteFault.ensures.over

pub returns-in-Full-clause-full : goal.returns-in-Full-clause-full
returns-in-Full-clause-full g c = λ e. took_limit _ _ _ (taken_more _ _ _ _ _ _ c.turns.invariant.takes c.in-Full.ensures.takes) (c.in-Full.ensures.full refl)
