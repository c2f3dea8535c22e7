use Rattle.std.proofs.Common.{◌≡◌, ◌∙◌, ap, ℕ, List}
use Rattle.audit_core.specs.declared.plan.Stage.TheVariants.{Loading}
use Rattle.audit_core.specs.AuditState.{AuditState, loaded, check_loaded, line_at}
use Rattle.audit_core.proofs.Replies.{on_ok}
use Rattle.audit_core.proofs.auditor.Auditor.check_load.Goals as goal

pub returns : goal.returns
returns g c =
    let s0 : AuditState = c.args.self.now in
    let s1 : AuditState = c.restore.new.self in
    let s2 : AuditState = c.check_loaded.new.self in
    let reply : List ℕ = c.args.reply.now in
    let line : c.items.result.now ≡ line_at s0 (Loading) = c.items.ensures ∙ (c.in_ok-asked.ensures ∙ ap (line_at s0) c.requires.stage) in
    on_ok c.check_loaded.result (s2 ≡ check_loaded s1 c.items.result.now reply) (s2 ≡ check_loaded (loaded s0) (line_at s0 (Loading)) reply)
    (λ e. e ∙ (λ i. check_loaded (c.restore.ensures i) (line i) reply)) c.check_loaded.ensures
