use Rattle.std.proofs.Common.{◌∙◌, sym, ap, inl, inr, refl}
use Rattle.std.proofs.lemmas.Bool.{iff_false}
use Rattle.hive_model.specs.Boards.{is_in_play}
use Rattle.legal_moves.proofs.throws.is_moved.Goals as goal

pub returns-then-is_walk : goal.returns-then-is_walk
returns-then-is_walk g c =
    let b = g.B.Board.stacks c.args.board.now in
    let queen = ap (is_in_play b) (sym c.queen.ensures) ∙ sym c.is_in_play.ensures ∙ c.if-not-is_in_play.false in
    (λ _. (queen, inl (c.is_walk.ensures.0 c.if-is_walk.true)), λ _. refl)

pub returns : goal.returns
returns g c =
    let b = g.B.Board.stacks c.args.board.now in
    let queen = ap (is_in_play b) (sym c.queen.ensures) ∙ sym c.is_in_play.ensures ∙ c.if-not-is_in_play.false in
    let stays = iff_false c.is_walk.ensures c.if-is_walk.false in (
      λ e. (queen, inr (c.is_thrown.ensures.0 e)),
      λ h. elim h.1 [ inl walk ↦ absurd (stays walk) | inr throw ↦ c.is_thrown.ensures.1 throw ],
    )
