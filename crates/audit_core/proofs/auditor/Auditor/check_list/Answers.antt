use Rattle.std.proofs.Common.{◌≡◌, ◌<◌, length, sym, subst}
use Rattle.audit_core.specs.AuditState.{AuditState, drawn_now, advance, count, play_drawn, found, check_list}
use Rattle.audit_core.proofs.Replies.{on_ok, list_none, list_some}
use Rattle.audit_core.proofs.auditor.Auditor.check_list.Goals as goal

pub draw_from-requires-clause-more : goal.draw_from-requires-clause-more
draw_from-requires-clause-more g c = subst (λ (s : AuditState). length s.moves < s.plan.plies) (sym c.in_ok-legal.ensures.same) c.requires.more

pub returns-in-None : goal.returns-in-None
returns-in-None g c =
    let s0 : AuditState = c.args.self.now in
    let s1 : AuditState = c.list_legal.new.self in
    let s2 : AuditState = c.draw_from.new.self in
    on_ok c.draw_from.result (s2 ≡ play_drawn (advance (count s1)) (drawn_now s1)) (s2 ≡ check_list s0 c.args.reply.now)
    (list_none s0 s1 s2 c.in_ok-wrong_list.field-0 c.args.reply.now c.in_ok-legal.ensures.same c.in_ok-wrong_list.ensures c.in-None.is) c.draw_from.ensures

pub returns : goal.returns
returns g c =
    let s0 : AuditState = c.args.self.now in
    let s1 : AuditState = c.list_legal.new.self in
    let s2 : AuditState = c.found.new.self in
    on_ok c.found.result (s2 ≡ found s1 c.in-Some.finding) (s2 ≡ check_list s0 c.args.reply.now)
    (list_some s0 s1 s2 c.in_ok-wrong_list.field-0 c.in-Some.finding c.args.reply.now c.in_ok-legal.ensures.same c.in_ok-wrong_list.ensures c.in-Some.is) c.found.ensures
