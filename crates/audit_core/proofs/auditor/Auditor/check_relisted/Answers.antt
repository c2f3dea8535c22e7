use Rattle.std.proofs.Common.{◌≡◌}
use Rattle.audit_core.specs.declared.plan.Stage.TheVariants.{Loading}
use Rattle.audit_core.specs.AuditState.{AuditState, check_relisted, count, found, go}
use Rattle.audit_core.proofs.Replies.{on_ok, listed_none, listed_some}
use Rattle.audit_core.proofs.auditor.Auditor.check_relisted.Goals as goal

pub returns-in-None : goal.returns-in-None
returns-in-None g c =
    let s0 : AuditState = c.args.self.now in
    let s1 : AuditState = c.list_legal.new.self in
    let s2 : AuditState = c.load_from.new.self in
    let K : AuditState → AuditState = λ s. go (count s) Loading in
    on_ok c.load_from.result (s2 ≡ K s1) (s2 ≡ check_relisted s0 c.args.reply.now)
    (listed_none K s0 s1 s2 c.in_ok-wrong_list.field-0 c.args.reply.now c.in_ok-legal.ensures.same c.in_ok-wrong_list.ensures c.in-None.is) c.load_from.ensures

pub returns : goal.returns
returns g c =
    let s0 : AuditState = c.args.self.now in
    let s1 : AuditState = c.list_legal.new.self in
    let s2 : AuditState = c.found.new.self in
    let K : AuditState → AuditState = λ s. go (count s) Loading in
    on_ok c.found.result (s2 ≡ found s1 c.in-Some.finding) (s2 ≡ check_relisted s0 c.args.reply.now)
    (listed_some K s0 s1 s2 c.in_ok-wrong_list.field-0 c.in-Some.finding c.args.reply.now c.in_ok-legal.ensures.same c.in_ok-wrong_list.ensures c.in-Some.is) c.found.ensures
