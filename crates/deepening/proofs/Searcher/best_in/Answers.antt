use Rattle.std.proofs.Common.{rules, ◌≡◌, ◌∙◌, ap, arith, refl}
use Rattle.hive_model.specs.Histories.{position}
use Rattle.hive_model.specs.Stack.{Levels}
use Rattle.hive_model.specs.Minimax.{nodes}
use Rattle.hive_model.specs.Costs.{share}
use Rattle.search_core.specs.Moments.{moment}
use Rattle.search_core.proofs.MomentLaws.{spends-here}
use Rattle.deepening.proofs.RootStops.{seldom-of}
use Rattle.deepening.proofs.DepthLaws.{counted-end, counted-stop, watched-read, watched-then, watched-end, early-then}
use Rattle.deepening.proofs.Searcher.best_in.Goals as goal

pub returns-then-now-deadline-clause-timed : goal.returns-then-now-deadline-clause-timed
returns-then-now-deadline-clause-timed g c =
    let turn = c.loop-depth.invariant in
    let start = g.G.Game.history c.args.game.now in
    record {
      timed = search rules;
      in_time = search rules;
      readings = rw c.told.ensures.depth (counted-end (position start) c.loop-depth.depth _ _ _ _ turn.many turn.readings c.now-now.ensures.time.counted.1);
      often = watched-end _ _ _ _ _ _ turn.few (watched-read _ _ _ _ _ _ _ c.now-now.ensures.time.exact turn.often);
    }

pub returns-in_default-clause-timed : goal.returns-in_default-clause-timed
returns-in_default-clause-timed g c =
    let at = moment g.G.Game.history g.G.Game.played g.C.Clock.readings g.C.Clock.last g.C.Clock.previous in
    let turn = c.loop-depth.invariant in
    let start = g.G.Game.history c.args.game.now in
    let d = c.loop-depth.depth in
    let now = at c.loop-depth.game c.loop-depth.self-inside.work c.now-now.new.self in
    let later = at c.best_reply.new.game c.best_reply.new.work c.best_reply.new.clock in
    let spent = spends-here (λ q. nodes q d) (λ q. share q d 0 1) start now later turn.game c.best_reply.ensures.spends in
    record {
      timed = search rules;
      in_time = search rules;
      readings = rw c.told-in_default.ensures.depth (counted-stop (position start) d _ _ _ _ _ _ turn.many turn.readings c.now-now.ensures.time.counted.1 (seldom-of now later _ _ refl refl spent));
      often = watched-end _ _ _ _ _ _ (c.best_reply.ensures.spends.often.few turn.few) (watched-then _ _ _ _ _ _ _ _ _ _ turn.deadline (watched-read _ _ _ _ _ _ _ c.now-now.ensures.time.exact turn.often) c.best_reply.ensures.spends.often);
    }

pub returns-clause-timed : goal.returns-clause-timed
returns-clause-timed g c =
    let turn = c.loop-depth.invariant in
    let start = g.G.Game.history c.args.game.now in
    let last : c.loop-depth.depth ≡ 65 = omega (arith, c.loop-depth-test.false, c.loop-depth.auto.depth-end) in
    record {
      timed = search rules;
      in_time = search rules;
      readings = rw c.told-2.ensures.depth (counted-end (position start) 65 _ _ _ _ (omega arith) (rw last at turn.readings) c.now.ensures.time.counted.1);
      often = watched-end _ _ _ _ _ _ turn.few (watched-read _ _ _ _ _ _ _ c.now.ensures.time.exact turn.often);
    }

pub best_reply-requires-clause-room : goal.best_reply-requires-clause-room
best_reply-requires-clause-room g c =
    let turn = c.loop-depth.invariant in
    let start = g.G.Game.history c.args.game.now in
    record {
      deep = omega (arith, c.loop-depth-test.true);
      spare = rw turn.game (omega (arith, c.loop-depth-test.true, c.requires.room.spare));
      free = omega (arith, c.loop-depth-test.true, c.requires.room.prepared, turn.searcher);
    }

pub loop-depth-preserved : goal.loop-depth-preserved
loop-depth-preserved g c =
    let at = moment g.G.Game.history g.G.Game.played g.C.Clock.readings g.C.Clock.last g.C.Clock.previous in
    let turn = c.loop-depth.invariant in
    let start = g.G.Game.history c.args.game.now in
    let d = c.loop-depth.depth in
    let now = at c.loop-depth.game c.loop-depth.self-inside.work c.now-now.new.self in
    let later = at c.best_reply.new.game c.best_reply.new.work c.best_reply.new.clock in
    let spent = spends-here (λ q. nodes q d) (λ q. share q d 0 1) start now later turn.game c.best_reply.ensures.spends in
    record {
      game = c.best_reply.ensures.spends.before.game ∙ turn.game;
      searcher = ap (λ (s : Levels). s.free) c.best_reply.ensures.spends.before.stack ∙ turn.searcher;
      many = omega (arith, turn.many);
      top = search rules;
      none = search rules;
      deadline = c.best_reply.ensures.spends.time.deadline ∙ turn.deadline;
      few = c.best_reply.ensures.spends.often.few turn.few;
      started = search rules;
      early = λ _. early-then _ _ _ _ turn.deadline (omega (arith, c.if-now-deadline.false, c.now-now.ensures.time.read)) c.in-Some.ensures.answers.in_time;
      readings = search rules;
      often = watched-then _ _ _ _ _ _ _ _ _ _ turn.deadline (watched-read _ _ _ _ _ _ _ c.now-now.ensures.time.exact turn.often) c.best_reply.ensures.spends.often;
      played = search rules;
    }
