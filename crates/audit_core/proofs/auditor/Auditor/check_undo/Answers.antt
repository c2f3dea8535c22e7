use Rattle.std.proofs.Common.{◌≡◌, ◌∙◌, ap, ℕ, List}
use Rattle.audit_core.specs.declared.plan.Stage.TheVariants.{Undoing}
use Rattle.audit_core.specs.AuditState.{AuditState, without_plies, check_undone, line_at}
use Rattle.audit_core.proofs.Replies.{on_ok}
use Rattle.audit_core.proofs.auditor.Auditor.check_undo.Goals as goal

pub returns : goal.returns
returns g c =
    let s0 : AuditState = c.args.self.now in
    let s1 : AuditState = c.take_back.new.self in
    let s2 : AuditState = c.check_undone.new.self in
    let reply : List ℕ = c.args.reply.now in
    let line : c.items.result.now ≡ line_at s0 (Undoing c.args.plies) = c.items.ensures ∙ (c.in_ok-asked.ensures ∙ ap (line_at s0) c.requires.stage) in
    on_ok c.check_undone.result (s2 ≡ check_undone s1 c.items.result.now reply) (s2 ≡ check_undone (without_plies s0 c.args.plies) (line_at s0 (Undoing c.args.plies)) reply)
    (λ e. e ∙ (λ i. check_undone (c.in_ok-take_back.ensures i) (line i) reply)) c.check_undone.ensures
