use Rattle.std.proofs.Common.{◌≡◌}
use Rattle.audit_core.specs.AuditState.{AuditState, check_finish, count, end_game, found, next_game}
use Rattle.audit_core.proofs.Replies.{on_ok, listed_none, listed_some}
use Rattle.audit_core.proofs.auditor.Auditor.check_finish.Goals as goal

pub returns-in-None : goal.returns-in-None
returns-in-None g c =
    let s0 : AuditState = c.args.self.now in
    let s1 : AuditState = c.list_legal.new.self in
    let s2 : AuditState = c.end_listed.new.self in
    let K : AuditState → AuditState = λ s. next_game (end_game (count s)) in
    on_ok c.end_listed.result (s2 ≡ K s1) (s2 ≡ check_finish s0 c.args.reply.now)
    (listed_none K s0 s1 s2 c.in_ok-wrong_list.field-0 c.args.reply.now c.in_ok-legal.ensures.same c.in_ok-wrong_list.ensures c.in-None.is) c.end_listed.ensures

pub returns : goal.returns
returns g c =
    let s0 : AuditState = c.args.self.now in
    let s1 : AuditState = c.list_legal.new.self in
    let s2 : AuditState = c.found.new.self in
    let K : AuditState → AuditState = λ s. next_game (end_game (count s)) in
    on_ok c.found.result (s2 ≡ found s1 c.in-Some.finding) (s2 ≡ check_finish s0 c.args.reply.now)
    (listed_some K s0 s1 s2 c.in_ok-wrong_list.field-0 c.in-Some.finding c.args.reply.now c.in_ok-legal.ensures.same c.in_ok-wrong_list.ensures c.in-Some.is) c.found.ensures
