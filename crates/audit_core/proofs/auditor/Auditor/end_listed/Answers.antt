use Rattle.std.proofs.Common.{◌≡◌, ◌∙◌, ap}
use Rattle.audit_core.specs.AuditState.{AuditState, count, end_game, next_game}
use Rattle.audit_core.proofs.Replies.{on_ok}
use Rattle.audit_core.proofs.auditor.Auditor.end_listed.Goals as goal

pub returns : goal.returns
returns g c =
    let s0 : AuditState = c.args.self.now in
    let s1 : AuditState = c.count.new.self in
    let s2 : AuditState = c.end_game.new.self in
    on_ok c.end_game.result (s2 ≡ next_game (end_game s1)) (s2 ≡ next_game (end_game (count s0)))
    (λ e. e ∙ ap (λ (s : AuditState). next_game (end_game s)) c.in_ok-count.ensures) c.end_game.ensures
