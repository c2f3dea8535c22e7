use Rattle.std.proofs.Common.{◌≡◌, List, sym, ◌∙◌, ap, subst}
use Rattle.std.specs.Prelude.{not, Option}
use Rattle.std.specs.List.{filter}
use Rattle.std.specs.Option.{IfSome}
use Rattle.hive_model.specs.declared.places.Move.{Move}
use Rattle.move_text.specs.Moves.{IsMoveWithin}
use Rattle.grow_game.specs.Growing.{drawn}
use Rattle.audit_core.specs.Judging.{has_move}
use Rattle.audit_core.proofs.Picks.{drawn_near}
use Rattle.audit_core.proofs.drawing.draw_tried.Goals as goal

pub returns-clause-near : goal.returns-clause-near
returns-clause-near g c =
    let w = c.next_word-word.result in
    let stale : List Move → List Move = filter (λ m. not (has_move c.args.legal.now m)) in
    let here : c.items-2.result.now ≡ stale c.in_ok-before.before = c.items-2.ensures ∙ (c.in_ok-stale.ensures ∙ ap stale c.items.ensures) in
    subst (λ (o : Option Move). IfSome o (λ m. IsMoveWithin m)) (sym (c.pick.ensures ∙ ap (drawn w) here))
    (drawn_near (λ m. not (has_move c.args.legal.now m)) w c.in_ok-before.before IsMoveWithin c.in_ok-before.ensures.near)
