use Rattle.std.proofs.Common.{◌≡◌, Bool, ap, sym, subst, ◌∙◌}
use Rattle.std.specs.Result.{IfOk}
use Rattle.hive_model.specs.Histories.{position}
use Rattle.audit_core.specs.Drawing.{drawn_of, is_siege}
use Rattle.audit_core.specs.AuditState.{AuditState, drawn_now, games_before}
use Rattle.audit_core.proofs.auditor.Auditor.draw.Goals as goal

pub returns-clause-drawn : goal.returns-clause-drawn
returns-clause-drawn g c =
    let inside = c.self.inside in
    let siege = c.is_siege-siege.ensures ∙ ap (is_siege inside.plan.seed) (c.in_ok-games_before.ensures ∙ ap games_before (sym c.self.view_is)) in
    subst (λ (s : AuditState). IfOk c.draw.result (λ o. o ≡ drawn_now s)) c.self.view_is
    (subst (λ (b : Bool). IfOk c.draw.result (λ o. o ≡ drawn_of b inside.generator (position (g.G.Game.history inside.game)))) siege c.draw.ensures.drawn)
