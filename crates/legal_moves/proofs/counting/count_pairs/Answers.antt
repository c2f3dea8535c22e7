use Rattle.std.proofs.Common.{◌≡◌, arith, subst}
use Rattle.hive_model.specs.Legal.{LegalPair}
use Rattle.bug_moves.specs.Counts.{AreMany}
use Rattle.legal_moves.specs.Counting.{PairsAreMany}
use Rattle.legal_moves.specs.Going.{position_of}
use Rattle.legal_moves.proofs.CountLaws.{none_counted, counted_next, counted_few}
use Rattle.legal_moves.proofs.counting.count_pairs.Goals as goal

pub loop-x-init : goal.loop-x-init
loop-x-init g c = record { counted = none_counted (LegalPair (position_of (g.B.Board.stacks c.args.board.now) c.args.turn.now)) }

pub overflow_add-count : goal.overflow_add-count
overflow_add-count g c =
    let p = position_of (g.B.Board.stacks c.args.board.now) c.args.turn.now in
    let few = counted_few (LegalPair p) c.loop-x.x c.loop-x.count c.loop-x.invariant.counted in
    let one = c.count_piece.ensures.few in
    let many = c.count_piece.ensures.many in
    omega (arith, few, one, many, c.loop-x-test.true)

pub loop-x-preserved : goal.loop-x-preserved
loop-x-preserved g c =
    let p = position_of (g.B.Board.stacks c.args.board.now) c.args.turn.now in
    let x = c.loop-x.x in
    let more = subst (λ y. AreMany (LegalPair p y) c.count_piece.result) c.at-piece.ensures c.count_piece.ensures in
    record { counted = counted_next (LegalPair p) x c.loop-x.count c.count_piece.result c.loop-x.invariant.counted more }

pub returns : goal.returns
returns g c =
    let p = position_of (g.B.Board.stacks c.args.board.now) c.args.turn.now in
    let all : c.loop-x.x ≡ 28 = omega arith in
    subst (λ n. PairsAreMany (LegalPair p) n c.loop-x.count) all c.loop-x.invariant.counted
