use Rattle.std.proofs.Common.{◌≡◌, ◌∙◌, sym, true, false}
use Rattle.std.proofs.lemmas.Bool.{not-true, not_from_false, false_from_ne_true}
use Rattle.pillbug_throws.proofs.ThrowParts.{loose_from}
use Rattle.pillbug_throws.proofs.landing.is_loose.Goals as goal

pub returns : goal.returns
returns g c =
    let b = g.B.Board.stacks c.args.board.now in (
      λ h. loose_from b c.args.rest c.args.over c.args.piece c.args.from (sym c.is_at_hand.ensures ∙ c.if-not-is_at_hand.false) (λ cut.
          let is = c.is_cut.ensures.1 cut in
          let wrong : false ≡ true = sym (not-true c.is_cut.result h) ∙ is in cc),
      λ h. not_from_false c.is_cut.result (false_from_ne_true c.is_cut.result (λ e. h.not_cut (c.is_cut.ensures.0 e))),
    )
