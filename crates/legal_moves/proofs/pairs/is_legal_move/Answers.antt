use Rattle.std.proofs.Common.{◌≡◌, ◌↔◌, true, false, not, sym, ◌∙◌, subst}
use Rattle.std.specs.Prelude.{IsTrue}
use Rattle.std.proofs.lemmas.Bool.{iff_false, not-true, not_from_false, false_from_ne_true}
use Rattle.hive_model.specs.Lists.{IsOn}
use Rattle.hive_model.specs.Legal.{moves}
use Rattle.hive_model.proofs.MoveLaws.{over_moves}
use Rattle.legal_moves.specs.Going.{position_of}
use Rattle.legal_moves.proofs.Pairing.{pair_is_listed, pass_is_listed}
use Rattle.legal_moves.proofs.pairs.is_legal_move.Goals as goal

pub returns-then-over : goal.returns-then-over
returns-then-over g c =
    let b = g.B.Board.stacks c.args.board.now in
    let p = position_of b c.args.turn.now in (
      λ e. let wrong : false ≡ true = e in absurd (cc),
      λ on. absurd (subst (λ ms. IsOn ms c.args.m) (over_moves p (sym c.requires ∙ c.if-over.true)) on),
    )

pub returns-in-Pass : goal.returns-in-Pass
returns-in-Pass g c =
    let b = g.B.Board.stacks c.args.board.now in
    let p = position_of b c.args.turn.now in
    let law = pass_is_listed p c.lemma_board.ensures (sym c.requires ∙ c.if-over.false) in
    subst (λ m. IsTrue (not c.has_pair.result) ↔ IsOn (moves p) m) (sym c.in-Pass.is) (
      λ e. law.0 (iff_false c.has_pair.ensures (not-true _ e)),
      λ on. not_from_false _ (false_from_ne_true _ (λ e. law.1 on (c.has_pair.ensures.0 e))),
    )

pub returns-in-To : goal.returns-in-To
returns-in-To g c =
    let b = g.B.Board.stacks c.args.board.now in
    let p = position_of b c.args.turn.now in
    let law = pair_is_listed p c.lemma_board.ensures (sym c.requires ∙ c.if-over.false) c.in-To.piece c.in-To.place in
    subst (λ m. IsTrue c.is_pair.result ↔ IsOn (moves p) m) (sym c.in-To.is) (
      λ e. law.0 (c.is_pair.ensures.0 e),
      λ on. c.is_pair.ensures.1 (law.1 on),
    )
