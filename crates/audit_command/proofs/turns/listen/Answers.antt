use Rattle.std.proofs.Common.{◌∙◌, ap, ℕ, List}
use Rattle.io_edge.specs.Lines.{Text}
use Rattle.audit_core.specs.AuditState.{AuditState, at_mark}
use Rattle.audit_command.proofs.Turning.{falls_line}
use Rattle.audit_command.proofs.turns.listen.Goals as goal

pub returns-in-Ok-clause-hears : goal.returns-in-Ok-clause-hears
returns-in-Ok-clause-hears g c =
    let s : AuditState = c.args.auditor.now in
    let said : List ℕ → AuditState = λ b. at_mark s (Text b) in
    (Text c.next_short_line.new.self.last, c.in-Ok.ensures ∙ ap said c.line.ensures, c.in-Line.ensures.ahead)

pub returns-in-Ok-clause-falls : goal.returns-in-Ok-clause-falls
returns-in-Ok-clause-falls g c = λ _. falls_line c.args.reader.now c.next_short_line.new.self (g.L.Source.rest c.args.link.now) (g.L.Source.rest c.next_short_line.new.source) c.in-Line.ensures.fed c.in-Line.ensures.counts

pub returns-in-Ok-pass_over-clause-hears : goal.returns-in-Ok-pass_over-clause-hears
returns-in-Ok-pass_over-clause-hears g c = (c.in-Ok-pass_over.ensures, c.in-Long.ensures.ahead.0)

pub returns-in-Ok-clause-takes : goal.returns-in-Ok-clause-takes
returns-in-Ok-clause-takes g c = (c.in-Line.ensures.fed.0, c.in-Line.ensures.fed.1)

pub returns-in-Err-clause-takes : goal.returns-in-Err-clause-takes
returns-in-Err-clause-takes g c = (c.in-Line.ensures.fed.0, c.in-Line.ensures.fed.1)

pub returns-in-Ok-pass_over-clause-takes : goal.returns-in-Ok-pass_over-clause-takes
returns-in-Ok-pass_over-clause-takes g c = (c.in-Long.ensures.fed.0, c.in-Long.ensures.fed.1)
