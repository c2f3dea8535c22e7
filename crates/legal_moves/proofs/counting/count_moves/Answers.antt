use Rattle.std.proofs.Common.{length, sym, ◌∙◌, ap, arith}
use Rattle.hive_model.proofs.MoveLaws.{over_moves}
use Rattle.legal_moves.specs.Going.{position_of}
use Rattle.legal_moves.proofs.CountLaws.{one_pass, many_moves}
use Rattle.legal_moves.proofs.counting.count_moves.Goals as goal

pub returns-then-over : goal.returns-then-over
returns-then-over g c =
    let p = position_of (g.B.Board.stacks c.args.board.now) c.args.turn.now in
    sym (ap length (over_moves p (sym c.requires ∙ c.if-over.true)))

pub returns-then-pairs-eq0 : goal.returns-then-pairs-eq0
returns-then-pairs-eq0 g c =
    let p = position_of (g.B.Board.stacks c.args.board.now) c.args.turn.now in
    one_pass p c.lemma_board.ensures (sym c.requires ∙ c.if-over.false) c.count_pairs-pairs.result c.count_pairs-pairs.ensures c.if-pairs-eq0.true

pub returns : goal.returns
returns g c =
    let p = position_of (g.B.Board.stacks c.args.board.now) c.args.turn.now in
    many_moves p c.lemma_board.ensures (sym c.requires ∙ c.if-over.false) c.count_pairs-pairs.result c.count_pairs-pairs.ensures (omega (arith, c.if-pairs-eq0.false))
