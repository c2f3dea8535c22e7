use Rattle.std.proofs.Common.{◌≡◌, ◌≤◌, ◌<◌, inl, inr, sym, ap, subst, arith, length, not, get_or}
use Rattle.std.specs.Prelude.{IsTrue}
use Rattle.std.proofs.lemmas.Bool.{and_parts}
use Rattle.hive_model.specs.Places.{IsWithin, origin}
use Rattle.hive_model.specs.Boards.{is_occupied}
use Rattle.hive_model.proofs.PlaceLemmas.{wider_on_board}
use Rattle.one_hive.specs.Walks.{others, is_left_out}
use Rattle.one_hive.proofs.Marking.{most_listed}
use Rattle.one_hive.proofs.Walking.{longer, walked_start, walked_more, walked_all, get_on, joined_in}
use Rattle.one_hive.proofs.parting.walk_until.Goals as goal

pub loop-next-init : goal.loop-next-init
loop-next-init g c = record {
  marked = c.met_first-met.ensures.marked;
  walked = walked_start (others (g.B.Board.stacks c.args.board.now) c.args.left_out) c.args.start c.met_first-met.result.places.items c.met_first-met.ensures.places;
  low = omega arith;
}

pub loop-next-smaller : goal.loop-next-smaller
loop-next-smaller g c =
    let most = most_listed (g.B.Board.stacks c.args.board.now) c.loop-next.met.places.items c.loop-next.met.tops c.loop-next.invariant.marked in
    omega (arith, most, c.loop-next-test.true, c.len.ensures.value)

pub spread-requires-clause-within : goal.spread-requires-clause-within
spread-requires-clause-within g c =
    let b = g.B.Board.stacks c.args.board.now in
    let o = others b c.args.left_out in
    let old = c.loop-next.met.places.items in
    let low : c.loop-next.next < length old = omega (arith, c.loop-next-test.true, c.len.ensures.value) in
    let place = get_or old c.loop-next.next origin in
    let j = c.loop-next.invariant.walked.reached place (get_on old c.loop-next.next origin low) in
    let there : IsTrue (o place) = joined_in o c.args.start j.0 place c.requires.start j.1 in
    let occupied = (and_parts (not (is_left_out c.args.left_out place)) (is_occupied b place) there).1 in
    subst (λ ps. IsWithin 9500 (get_or ps c.loop-next.next origin)) (sym c.as_slice.ensures.value) (wider_on_board place (c.requires.board.within place occupied))

pub spread-requires-clause-marked : goal.spread-requires-clause-marked
spread-requires-clause-marked g c = c.loop-next.invariant.marked

pub loop-next-preserved : goal.loop-next-preserved
loop-next-preserved g c =
    let o = others (g.B.Board.stacks c.args.board.now) c.args.left_out in
    let old = c.loop-next.met.places.items in
    let low : c.loop-next.next < length old = omega (arith, c.loop-next-test.true, c.len.ensures.value) in
    let s = c.spread.ensures.spreads in
    let place : get_or c.as_slice.result.now c.loop-next.next origin ≡ get_or old c.loop-next.next origin = ap (λ ps. get_or ps c.loop-next.next origin) c.as_slice.ensures.value in
    record {
      marked = c.spread.ensures.marked;
      walked = walked_more o c.args.start c.loop-next.next old c.spread.new.met.places.items _ origin low place c.loop-next.invariant.walked s;
      low = longer old s.added c.spread.new.met.places.items c.loop-next.next low s.extends;
    }

pub returns-then-has_all-clause-marked : goal.returns-then-has_all-clause-marked
returns-then-has_all-clause-marked g c = c.loop-next.invariant.marked

pub returns-then-has_all-clause-met : goal.returns-then-has_all-clause-met
returns-then-has_all-clause-met g c = c.loop-next.invariant.walked.reached

pub returns-then-has_all-clause-end : goal.returns-then-has_all-clause-end
returns-then-has_all-clause-end g c = inl (c.has_all.ensures.0 c.if-has_all.true)

pub returns-clause-marked : goal.returns-clause-marked
returns-clause-marked g c = c.loop-next.invariant.marked

pub returns-clause-met : goal.returns-clause-met
returns-clause-met g c = c.loop-next.invariant.walked.reached

pub returns-clause-end : goal.returns-clause-end
returns-clause-end g c =
    let o = others (g.B.Board.stacks c.args.board.now) c.args.left_out in
    let all : length c.loop-next.met.places.items ≤ c.loop-next.next = omega (arith, c.loop-next-test.false, c.len.ensures.value) in
    inr (λ p. walked_all o c.args.start c.loop-next.next c.loop-next.met.places.items all c.loop-next.invariant.walked p)
