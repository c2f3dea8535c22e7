use Rattle.std.proofs.Common.{inl, inr, refl, sym, subst}
use Rattle.std.proofs.lemmas.Bool.{iff_false}
use Rattle.legal_moves.specs.Going.{ThrownBy, position_of}
use Rattle.legal_moves.proofs.Throwing.{throw_by, by_throw}
use Rattle.legal_moves.proofs.throws.is_thrown.Goals as goal

pub returns-then-is_thrown_by : goal.returns-then-is_thrown_by
returns-then-is_thrown_by g c =
    let b = g.B.Board.stacks c.args.board.now in
    let p = position_of b c.args.turn.now in
    (λ _. by_throw p c.args.piece c.args.place (inl (subst (λ y. ThrownBy b p.rest y c.args.piece c.args.place) c.pillbug_of.ensures (c.is_thrown_by.ensures.0 c.if-is_thrown_by.true))), λ _. refl)

pub returns : goal.returns
returns g c =
    let b = g.B.Board.stacks c.args.board.now in
    let p = position_of b c.args.turn.now in
    let none = iff_false c.is_thrown_by.ensures c.if-is_thrown_by.false in (
      λ e. by_throw p c.args.piece c.args.place (inr (subst (λ y. ThrownBy b p.rest y c.args.piece c.args.place) c.mosquito_of.ensures (c.is_thrown_by-2.ensures.0 e))),
      λ h. elim (throw_by p c.args.piece c.args.place h) [
        | inl one ↦ absurd (none (subst (λ y. ThrownBy b p.rest y c.args.piece c.args.place) (sym c.pillbug_of.ensures) one))
        | inr two ↦ c.is_thrown_by-2.ensures.1 (subst (λ y. ThrownBy b p.rest y c.args.piece c.args.place) (sym c.mosquito_of.ensures) two)
      ],
    )
