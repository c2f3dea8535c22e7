use Rattle.std.proofs.Common.{◌≡◌}
use Rattle.audit_core.specs.Drawing.{tried_of}
use Rattle.audit_core.specs.AuditState.{AuditState, check_review, count, found, next_word, position_before, position_now, try_drawn}
use Rattle.audit_core.proofs.Replies.{on_ok, listed_none, listed_some}
use Rattle.audit_core.proofs.auditor.Auditor.check_review.Goals as goal

pub returns-in-None : goal.returns-in-None
returns-in-None g c =
    let s0 : AuditState = c.args.self.now in
    let s1 : AuditState = c.list_legal.new.self in
    let s2 : AuditState = c.try_from.new.self in
    let K : AuditState → AuditState = λ s. try_drawn (next_word (count s)) (tried_of s.state (position_before s) (position_now s)) in
    on_ok c.try_from.result (s2 ≡ K s1) (s2 ≡ check_review s0 c.args.reply.now)
    (listed_none K s0 s1 s2 c.in_ok-wrong_list.field-0 c.args.reply.now c.in_ok-legal.ensures.same c.in_ok-wrong_list.ensures c.in-None.is) c.try_from.ensures

pub returns : goal.returns
returns g c =
    let s0 : AuditState = c.args.self.now in
    let s1 : AuditState = c.list_legal.new.self in
    let s2 : AuditState = c.found.new.self in
    let K : AuditState → AuditState = λ s. try_drawn (next_word (count s)) (tried_of s.state (position_before s) (position_now s)) in
    on_ok c.found.result (s2 ≡ found s1 c.in-Some.finding) (s2 ≡ check_review s0 c.args.reply.now)
    (listed_some K s0 s1 s2 c.in_ok-wrong_list.field-0 c.in-Some.finding c.args.reply.now c.in_ok-legal.ensures.same c.in_ok-wrong_list.ensures c.in-Some.is) c.found.ensures
