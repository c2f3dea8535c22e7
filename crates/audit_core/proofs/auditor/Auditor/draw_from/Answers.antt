use Rattle.std.proofs.Common.{◌≡◌, ◌<◌, length, sym, ◌∙◌, ap, subst}
use Rattle.std.specs.Option.{IfSome}
use Rattle.hive_model.specs.Lists.{IsOn}
use Rattle.hive_model.specs.Legal.{moves}
use Rattle.audit_core.specs.Drawing.{is_siege}
use Rattle.audit_core.specs.AuditState.{AuditState, drawn_now, games_before, position_now, advance, count, play_drawn}
use Rattle.audit_core.proofs.Picks.{same_drawn}
use Rattle.audit_core.proofs.Replies.{on_ok, drawn_so}
use Rattle.audit_core.proofs.auditor.Auditor.draw_from.Goals as goal

pub draw-requires : goal.draw-requires
draw-requires g c = c.requires.legal ∙ ap (λ (s : AuditState). moves (position_now s)) (sym c.in_ok-count.ensures)

pub play_drawn-requires-clause-more : goal.play_drawn-requires-clause-more
play_drawn-requires-clause-more g c =
    subst (λ (s : AuditState). length s.moves < s.plan.plies) (sym (c.in_ok-drawn.ensures.state ∙ ap advance c.in_ok-count.ensures)) c.requires.more

pub play_drawn-requires-clause-legal : goal.play_drawn-requires-clause-legal
play_drawn-requires-clause-legal g c =
    let s1 : AuditState = c.count.new.self in
    subst (λ (s : AuditState). IfSome c.in_ok-drawn.drawn (λ m. IsOn (moves (position_now s)) m)) (sym c.in_ok-drawn.ensures.state)
    (same_drawn c.in_ok-drawn.drawn (is_siege s1.plan.seed (games_before s1)) s1.state (position_now s1) c.in_ok-drawn.ensures.drawn)

pub returns : goal.returns
returns g c =
    let s0 : AuditState = c.args.self.now in
    let s1 : AuditState = c.count.new.self in
    let s2 : AuditState = c.draw.new.self in
    let s3 : AuditState = c.play_drawn.new.self in
    on_ok c.play_drawn.result (s3 ≡ play_drawn s2 c.in_ok-drawn.drawn) (s3 ≡ play_drawn (advance (count s0)) (drawn_now s0))
    (drawn_so s0 s1 s2 s3 c.in_ok-drawn.drawn c.in_ok-count.ensures c.in_ok-drawn.ensures.state c.in_ok-drawn.ensures.drawn) c.play_drawn.ensures
