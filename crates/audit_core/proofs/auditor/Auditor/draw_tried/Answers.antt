use Rattle.std.proofs.Common.{◌≡◌, subst}
use Rattle.std.specs.Result.{IfOk}
use Rattle.audit_core.specs.Drawing.{tried_of}
use Rattle.audit_core.specs.AuditState.{AuditState, position_before, position_now}
use Rattle.audit_core.proofs.auditor.Auditor.draw_tried.Goals as goal

pub returns-clause-drawn : goal.returns-clause-drawn
returns-clause-drawn g c = subst (λ (s : AuditState). IfOk c.draw_tried.result (λ o. o ≡ tried_of s.state (position_before s) (position_now s))) c.self.view_is c.draw_tried.ensures.drawn
