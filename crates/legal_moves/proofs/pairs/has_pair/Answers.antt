use Rattle.std.proofs.Common.{◌≡◌, ◌<◌, true, false, inl, inr, sym, ◌∙◌, subst, arith}
use Rattle.std.proofs.lemmas.Bool.{iff_false, cases_eq}
use Rattle.hive_model.specs.Legal.{LegalPair}
use Rattle.hive_model.proofs.LegalLaws.{legal_is_piece}
use Rattle.legal_moves.specs.Going.{position_of}
use Rattle.legal_moves.proofs.pairs.has_pair.Goals as goal

pub loop-x-preserved : goal.loop-x-preserved
loop-x-preserved g c y q low h =
    let p = position_of (g.B.Board.stacks c.args.board.now) c.args.turn.now in
    elim (cases_eq y c.loop-x.x) [
      | inl same ↦ iff_false c.goes_somewhere.ensures c.if-goes_somewhere.false (q, subst (λ z. LegalPair p z q) (same ∙ sym c.at.ensures) h)
      | inr other ↦ let less : y < c.loop-x.x = omega (arith, low, other) in c.loop-x.invariant y q less h
    ]

pub returns : goal.returns
returns g c =
    let p = position_of (g.B.Board.stacks c.args.board.now) c.args.turn.now in (
      λ e. let wrong : false ≡ true = e in absurd (cc),
      λ (x, q, h).
          let small = legal_is_piece p c.requires x q h in
          let low : x < c.loop-x.x = omega (arith, small, c.loop-x-test.false) in
          absurd (c.loop-x.invariant x q low h),
    )
