use Rattle.std.proofs.Common.{rules, ◌<◌, arith}
use Rattle.hive_model.proofs.KeyLemmas.{spots-more, number-more, spots-all, is_small_key, small_spot_within}
use Rattle.hive_model.proofs.key.Key.of.Goals as goal

pub of-requires : goal.of-requires
of-requires g c = small_spot_within (g.B.Board.stacks c.args.board.now) _ _ c.spot-spot.ensures.board c.spot-spot.ensures.spot

pub loop-index-preserved : goal.loop-index-preserved
loop-index-preserved g c = record {
  many = search rules;
  filled = spots-more (g.B.Board.stacks c.args.board.now) _ _ _ _ _ (omega (arith, c.loop-index-test.true)) c.loop-index.invariant.many c.loop-index.invariant.filled c.of.ensures c.spot-spot.ensures.spot c.at.ensures;
  number = number-more (g.B.Board.stacks c.args.board.now) _ _ _ _ _ c.loop-index.invariant.number c.mixed-number.ensures c.spot-spot.ensures.spot c.at.ensures;
  board = λ _. c.spot-spot.ensures.board;
}

pub returns : goal.returns
returns g c = spots-all _ (g.B.Board.stacks c.args.board.now) _ _ _ _ _ _ (omega (arith, c.loop-index-test.false)) c.loop-index.invariant.many c.loop-index.auto.index-end c.loop-index.invariant.filled (search rules)

pub invariant_of-result : goal.invariant_of-result
invariant_of-result g c =
    let past : 0 < c.loop-index.index = omega (arith, c.loop-index-test.false) in
    is_small_key (g.B.Board.stacks c.args.board.now) _ _ _ (c.loop-index.invariant.board past) (omega (arith, c.loop-index-test.false)) c.loop-index.auto.index-end c.loop-index.invariant.many
    c.loop-index.invariant.filled c.loop-index.invariant.number
