use Rattle.std.proofs.Common.{◌≡◌, ◌∙◌, ap, ℕ, List}
use Rattle.audit_core.specs.declared.plan.Stage.TheVariants.{Beginning}
use Rattle.audit_core.specs.AuditState.{AuditState, check_string, line_at}
use Rattle.audit_core.proofs.Replies.{on_ok}
use Rattle.audit_core.proofs.auditor.Auditor.check_begun.Goals as goal

pub returns : goal.returns
returns g c =
    let s0 : AuditState = c.args.self.now in
    let s1 : AuditState = c.check_string.new.self in
    let reply : List ℕ = c.args.reply.now in
    let line : c.items.result.now ≡ line_at s0 Beginning = c.items.ensures ∙ (c.in_ok-asked.ensures ∙ ap (line_at s0) c.requires.stage) in
    on_ok c.check_string.result (s1 ≡ check_string s0 c.items.result.now reply) (s1 ≡ check_string s0 (line_at s0 Beginning) reply)
    (λ e. e ∙ ap (λ (asked : List ℕ). check_string s0 asked reply) line) c.check_string.ensures
