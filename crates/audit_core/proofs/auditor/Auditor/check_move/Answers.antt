use Rattle.std.proofs.Common.{◌≡◌, ◌∙◌, ap, ℕ, List}
use Rattle.audit_core.specs.declared.plan.Stage.TheVariants.{Playing}
use Rattle.audit_core.specs.AuditState.{AuditState, with_move, check_string, line_at}
use Rattle.audit_core.proofs.Replies.{on_ok}
use Rattle.audit_core.proofs.auditor.Auditor.check_move.Goals as goal

pub returns : goal.returns
returns g c =
    let s0 : AuditState = c.args.self.now in
    let s1 : AuditState = c.play.new.self in
    let s2 : AuditState = c.check_string.new.self in
    let reply : List ℕ = c.args.reply.now in
    let line : c.items.result.now ≡ line_at s0 (Playing c.args.m) = c.items.ensures ∙ (c.in_ok-asked.ensures ∙ ap (line_at s0) c.requires.stage) in
    on_ok c.check_string.result (s2 ≡ check_string s1 c.items.result.now reply) (s2 ≡ check_string (with_move s0 c.args.m) (line_at s0 (Playing c.args.m)) reply)
    (λ e. e ∙ (λ i. check_string (c.play.ensures i) (line i) reply)) c.check_string.ensures
