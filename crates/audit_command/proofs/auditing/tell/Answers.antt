use Rattle.std.proofs.Common.{ℕ, List, ◌∙◌, ap, subst}
use Rattle.command_runs.specs.Answered.{WritesAs}
use Rattle.command_runs.specs.declared.status.Status.{Status}
use Rattle.audit_command.specs.Audit.{verdict_of}
use Rattle.audit_command.proofs.auditing.tell.Goals as goal

pub returns-clause-told : goal.returns-clause-told
returns-clause-told g c =
    let r = c.end_with.result in
    let w0 = g.K.Sink.written c.args.output.now in
    let w = g.K.Sink.written c.end_with.new.output in
    subst (λ (x : List ℕ). WritesAs x (verdict_of c.args.auditor.now.findings) r w0 w) c.text.ensures
    (subst (λ (s : Status). WritesAs c.text.result.now s r w0 w) (c.verdict-status.ensures.is ∙ ap verdict_of c.findings.ensures) c.end_with.ensures.told)
