use Rattle.std.proofs.Common.{◌≡◌, Some, refl, ◌∙◌, arith}
use Rattle.std.specs.List.{slice_get}
use Rattle.hive_model.specs.Legal.{moves}
use Rattle.search_laws.proofs.HintLaws.{at-place}
use Rattle.root_share.proofs.AnswerLaws.{answer-start, answer-other, answer-next, answer-end}
use Rattle.root_share.proofs.ChildLaws.{count-is, get-is}
use Rattle.root_share.proofs.ReadyLaws.{known-still, begin-still}
use Rattle.root_share.proofs.PlaysLaws.{plays-start, plays-step, plays-other, plays-spared, plays-known, plays-end, plays-more, other-before, next-before}
use Rattle.root_share.proofs.worker.run_in_turn.Goals as goal

pub loop-place-init : goal.loop-place-init
loop-place-init g c = record {
  seat = c.requires.begin.seated;
  root = refl;
  depth = c.requires.begin.ready.agreed;
  known = c.requires.known;
  answer = answer-start _ _ _ _ _;
  game = refl;
  searcher = refl;
  plays = plays-start _ _ _ _ _ _ c.requires.begin.seated.least;
  spared = λ h. absurd (omega (arith, h));
}

pub loop-place-preserved-then-place-work : goal.loop-place-preserved-then-place-work
loop-place-preserved-then-place-work g c =
    let turn = c.loop-place.invariant in
    let m = at-place (moves c.args.seat.now.me.0.root) c.loop-place.place (omega (arith, c.loop-place-test.true, count-is (moves c.args.seat.now.me.0.root) c.args.work.now.root.now c.level_len-count.result c.requires.begin.listed c.level_len-count.ensures)) in
    record {
      seat = turn.seat;
      root = turn.root;
      depth = turn.depth;
      known = turn.known;
      answer = answer-other _ _ _ _ _ _ _ (λ mine. absurd (c.if-place-work.true mine)) turn.answer;
      game = turn.game;
      searcher = turn.searcher;
      plays = plays-other _ _ _ _ _ m.0 _ _ _ _ m.1 c.if-place-work.true turn.plays;
      spared = λ h. plays-other _ _ _ _ _ m.0 _ _ _ _ m.1 c.if-place-work.true (turn.spared (other-before c.args.tried c.loop-place.place c.args.part c.args.work.now.parts h (c.requires.mine (omega (arith, h, c.loop-place-test.true, count-is (moves c.args.seat.now.me.0.root) c.args.work.now.root.now c.level_len-count.result c.requires.begin.listed c.level_len-count.ensures))) c.if-place-work.true));
    }

pub loop-place-preserved-then-place-tried : goal.loop-place-preserved-then-place-tried
loop-place-preserved-then-place-tried g c =
    let turn = c.loop-place.invariant in
    let p = c.args.seat.now.me.0.root in
    let m = at-place (moves p) c.loop-place.place (omega (arith, c.loop-place-test.true, count-is (moves p) c.args.work.now.root.now c.level_len-count.result c.requires.begin.listed c.level_len-count.ensures)) in
    let here : c.loop-place.place ≡ c.args.tried = c.if-place-tried.true in
    let there : slice_get (moves p) c.args.tried ≡ Some m.0 = rw (← here) m.1 in
    record {
      seat = turn.seat;
      root = turn.root;
      depth = turn.depth;
      known = turn.known;
      answer = answer-other _ _ _ _ _ _ _ (λ mine not. not here) turn.answer;
      game = turn.game;
      searcher = turn.searcher;
      plays = plays-known _ _ _ _ _ m.0 _ _ _ _ m.1 c.if-place-work.false (turn.known m.0 there) turn.plays;
      spared = λ h. plays-spared _ _ _ _ _ m.0 _ _ _ _ m.1 c.if-place-work.false (turn.known m.0 there) turn.plays;
    }

pub loop-place-preserved : goal.loop-place-preserved
loop-place-preserved g c =
    let turn = c.loop-place.invariant in
    let closed = c.try_child-answer.ensures.closed in
    let made = c.try_child-answer.ensures.worker in
    let p = c.args.seat.now.me.0.root in
    let here = get-is (moves p) c.args.work.now.root.now c.loop-place.place c.get.result c.requires.begin.listed c.get.ensures in
    record {
      seat = closed.knows.seated;
      root = closed.knows.root ∙ turn.root;
      depth = closed.knows.depth;
      known = known-still p c.args.work.now.depth c.loop-place.seat.me.0.top _ c.args.tried closed.least turn.known;
      answer = rw c.better-found.ensures (answer-next _ _ _ _ _ _ _ _ c.requires.begin.ready.inner turn.answer (rw turn.root at closed.answer));
      game = made.game ∙ turn.game;
      searcher = made.searcher ∙ turn.searcher;
      plays = plays-step p c.args.work.now.depth c.args.part c.args.work.now.parts c.loop-place.place c.get.result c.loop-place.seat.me.0.top _ _ _ _ _ here c.if-place-work.false turn.plays
          (rw turn.root at made.plays) closed.least (rw turn.root at closed.worth);
      spared = λ h. plays-step p c.args.work.now.depth c.args.part c.args.work.now.parts c.loop-place.place c.get.result c.loop-place.seat.me.0.top _ _ _ _ _ here c.if-place-work.false
          (turn.spared (next-before c.args.tried c.loop-place.place h c.if-place-tried.false)) (plays-more _ _ _ (rw turn.root at made.plays)) closed.least (rw turn.root at closed.worth);
    }

pub returns-clause-answer : goal.returns-clause-answer
returns-clause-answer g c = answer-end _ _ _ _ _ _ _ (omega (arith, c.loop-place-test.false, count-is (moves c.args.seat.now.me.0.root) c.args.work.now.root.now c.level_len-count.result c.requires.begin.listed c.level_len-count.ensures)) c.loop-place.invariant.answer

pub returns-clause-seat : goal.returns-clause-seat
returns-clause-seat g c =
    let turn = c.loop-place.invariant in
    record { seated = turn.seat; root = turn.root; depth = turn.depth }

pub returns-clause-worker : goal.returns-clause-worker
returns-clause-worker g c =
    let turn = c.loop-place.invariant in
    record { game = turn.game; searcher = turn.searcher; plays = plays-end _ _ _ _ _ _ _ _ turn.plays }

pub returns-clause-spared : goal.returns-clause-spared
returns-clause-spared g c = λ here.
    let past = count-is (moves c.args.seat.now.me.0.root) c.args.work.now.root.now c.level_len-count.result c.requires.begin.listed c.level_len-count.ensures in
    plays-end _ _ _ _ _ _ _ _ (c.loop-place.invariant.spared (omega (arith, c.loop-place-test.false, past, here)))

pub try_child-answer-requires : goal.try_child-answer-requires
try_child-answer-requires g c =
    let turn = c.loop-place.invariant in
    record {
      may = record {
        begin = begin-still _ _ _ _ _ _ c.requires.begin turn.seat turn.root turn.depth turn.game turn.searcher;
        here = rw turn.root (get-is (moves c.args.seat.now.me.0.root) c.args.work.now.root.now c.loop-place.place c.get.result c.requires.begin.listed c.get.ensures);
      };
    }
