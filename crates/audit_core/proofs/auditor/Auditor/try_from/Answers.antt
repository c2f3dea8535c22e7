use Rattle.std.proofs.Common.{sym, ◌∙◌, ap}
use Rattle.hive_model.specs.Legal.{moves}
use Rattle.audit_core.specs.AuditState.{AuditState, position_now}
use Rattle.audit_core.proofs.Replies.{tried_so}
use Rattle.audit_core.proofs.auditor.Auditor.try_from.Goals as goal

pub draw_tried-requires : goal.draw_tried-requires
draw_tried-requires g c = c.requires ∙ ap (λ (s : AuditState). moves (position_now s)) (sym c.in_ok-count.ensures)

pub returns : goal.returns
returns g c =
    let s0 : AuditState = c.args.self.now in
    let s1 : AuditState = c.count.new.self in
    let s2 : AuditState = c.draw_tried.new.self in
    let s3 : AuditState = c.try_drawn.new.self in
    tried_so s0 s1 s2 s3 c.in_ok-drawn.drawn c.in_ok-count.ensures c.in_ok-drawn.ensures.state c.in_ok-drawn.ensures.drawn c.try_drawn.ensures
