use Rattle.std.proofs.Common.{rules, ◌≡◌, ◌≤◌, length, Some, refl, sym, ap, subst, arith, ◌∙◌, to_z, of_z}
use Rattle.std.proofs.lemmas.Int.{ints, to_z-of_z}
use Rattle.std.specs.List.{slice_get}
use mir.Val.{SFits}
use mir.Syntax.{w32}
use Rattle.hive_model.specs.Legal.{moves}
use Rattle.hive_model.specs.Histories.{position, History}
use Rattle.hive_model.specs.Stack.{Levels}
use Rattle.search_laws.specs.Laws.{IsSmall}
use Rattle.search_laws.proofs.Signs.{neg-is}
use Rattle.search_laws.proofs.LoopLaws.{on-at, count-of-level}
use Rattle.search_laws.proofs.HintLaws.{here-in}
use Rattle.search_laws.proofs.NodeLaws.{node-listed, reply-room}
use Rattle.certificate_walks.specs.declared.limit.Limit.TheVariants.{AtMost, AtLeast}
use Rattle.certificate_walks.specs.Limits.{Keeps, is_kept}
use Rattle.certificate_walks.specs.Follows.{Shown}
use Rattle.certificate_walks.specs.Parts.{ending_of}
use Rattle.search_laws.proofs.HistoryLaws.{level-dropped, move-made, move-undone}
use Rattle.certificate_walks.proofs.LevelLaws.{node-replies, level-reply}
use Rattle.certificate_walks.proofs.FollowLaws.{follows-leaf, follows-child, shown-child, turn-told, turn-shown, turn-stops, turn-past, number-small, small-turned}
use Rattle.certificate_walks.proofs.NodeLaws.{part-behind, part-keeps, part-leaf, not-done, shown-past, claim-keeps, claim-told, below-none, leaf-ending, not-shown, is-shown, is-done, game-every, game-index, keeps-still, game-walks, claim-ends, claim-below, below-stops, below-done}
use Rattle.certificate_walks.proofs.walking.+walk.Goals as goal

pub walk_claim-returns-in-Some-clause-told : goal.walk_claim-returns-in-Some-clause-told
walk_claim-returns-in-Some-clause-told g t c =
    let R = g.W.Walker.rules in
    let fits : SFits w32 c.in-Some.worth = search rules in
    let v = to_z w32 (of_z w32 c.in-Some.worth) in
    follows-leaf R g.W.Walker.sight g.met.W.Walker.counts (position (g.G.Game.history c.args.game.now)) c.args.depth c.args.limit v (ending_of R g.W.Walker.ending c.leaf_answer.result) (g.W.Walker.seen c.args.walker.now)
    c.in-Some.ensures.ends (to_z-of_z w32 _ fits ∙ c.in-Some.ensures.leaf) (leaf-ending R g.W.Walker.ending (is_kept c.args.limit v) c.leaf_answer.result c.leaf_answer.ensures.answer)

pub walk_claim-returns-in-Below-clause-told : goal.walk_claim-returns-in-Below-clause-told
walk_claim-returns-in-Below-clause-told g t c =
    let x = c.in-AtLeast.least in
    let start = g.G.Game.history c.args.game.now in
    let small : IsSmall 1000100 x = number-small c.args.limit x (AtLeast x) c.in-AtLeast.is refl c.requires.small in
    let same : to_z w32 (of_z w32 x) ≡ x = omega (arith, ints, small.low, small.high) in
    claim-below g.W.Walker.rules g.W.Walker.sight start _ _ c.args.depth c.args.limit x _ _ c.in-Below.place (g.W.Walker.seen c.args.walker.now) (g.W.Walker.seen c.take.new.self) (g.W.Walker.seen c.walk_below.new.walker)
    (ending_of g.W.Walker.rules g.W.Walker.ending c.walk_below.result) c.in_default.ensures.leaf c.in-AtLeast.is c.in_default.ensures.same (c.in-Below.ensures.game ∙ c.in_default.ensures.same) same same c.in-Below.ensures.told c.walk_below.ensures.told

pub walk_claim-returns-in-Shown-clause-told : goal.walk_claim-returns-in-Shown-clause-told
walk_claim-returns-in-Shown-clause-told g t c =
    let x = c.in-AtLeast.least in
    let small : IsSmall 1000100 x = number-small c.args.limit x (AtLeast x) c.in-AtLeast.is refl c.requires.small in
    let same : to_z w32 (of_z w32 x) ≡ x = omega (arith, ints, small.low, small.high) in
    claim-ends g.W.Walker.rules g.W.Walker.sight g.met.W.Walker.carries_on (g.G.Game.history c.args.game.now) _ c.args.depth c.args.limit x _ (g.W.Walker.seen c.args.walker.now) (g.W.Walker.seen c.take.new.self)
    Shown c.in_default.ensures.leaf c.in-AtLeast.is c.in_default.ensures.same same c.in-Shown.ensures.told

pub walk_claim-returns-in-Stops-clause-told : goal.walk_claim-returns-in-Stops-clause-told
walk_claim-returns-in-Stops-clause-told g t c =
    let x = c.in-AtLeast.least in
    let small : IsSmall 1000100 x = number-small c.args.limit x (AtLeast x) c.in-AtLeast.is refl c.requires.small in
    let same : to_z w32 (of_z w32 x) ≡ x = omega (arith, ints, small.low, small.high) in
    claim-ends g.W.Walker.rules g.W.Walker.sight g.met.W.Walker.carries_on (g.G.Game.history c.args.game.now) _ c.args.depth c.args.limit x _ (g.W.Walker.seen c.args.walker.now) (g.W.Walker.seen c.take.new.self)
    (g.W.Walker.ending c.in-Stops.stop) c.in_default.ensures.leaf c.in-AtLeast.is c.in_default.ensures.same same c.in-Stops.ensures.told

pub walk_every-returns-clause-shown : goal.walk_every-returns-clause-shown
walk_every-returns-clause-shown g t c =
    let all = count-of-level c.list.new.out c.args.stack.now (moves (position (g.G.Game.history c.args.game.now))) c.levels-level.result c.level_len-count.result (c.list.ensures.listed) c.levels-level.ensures c.level_len-count.ensures in
    λ inv done. game-every (g.G.Game.history c.args.game.now) _ c.args.depth c.args.most _ c.level_len-count.result c.list.ensures.same c.requires.inner all (neg-is _ c.requires.small) (c.walk_moves-walked.ensures.shown inv done)

pub walk_every-returns-clause-told : goal.walk_every-returns-clause-told
walk_every-returns-clause-told g t c =
    let all = count-of-level c.list.new.out c.args.stack.now (moves (position (g.G.Game.history c.args.game.now))) c.levels-level.result c.level_len-count.result (c.list.ensures.listed) c.levels-level.ensures c.level_len-count.ensures in
    game-walks g.W.Walker.rules g.W.Walker.sight (g.G.Game.history c.args.game.now) _ c.args.depth c.args.most _ c.level_len-count.result (g.W.Walker.seen c.args.walker.now) (g.W.Walker.seen c.walk_moves-walked.new.walker)
    (ending_of g.W.Walker.rules g.W.Walker.ending c.walk_moves-walked.result) c.list.ensures.same c.requires.inner all (neg-is _ c.requires.small) c.walk_moves-walked.ensures.told

pub walk_below-walk_child-walked-requires : goal.walk_below-walk_child-walked-requires
walk_below-walk_child-walked-requires g t c κs within =
    let start = g.G.Game.history c.args.game.now in
    let here : slice_get (moves (position start)) c.args.place ≡ Some c.in-Some.m = sym c.in-Some.ensures.move_ in (
      search rules,
      (
        within.0,
        (
          within.1.0,
          (
            within.1.1,
            (
              record {
                legal = on-at _ _ _ (ap (λ (h : History). slice_get (moves (position h)) c.args.place) c.in-Some.ensures.game ∙ here);
                deep = omega (arith, c.requires.room.deep, c.requires.inner.deep);
                spare = omega (arith, ap (λ (h : History). h.spare) c.in-Some.ensures.game, c.requires.room.spare, c.requires.inner.deep);
                free = omega (arith, ap (λ (s : Levels). s.free) c.in-Some.ensures.stack, c.requires.room.free);
              },
              small-turned _ c.requires.small,
            ),
          ),
        ),
      ),
    )

pub walk_below-returns-clause-shown : goal.walk_below-returns-clause-shown
walk_below-returns-clause-shown g t c =
    λ inv done. game-index (g.G.Game.history c.args.game.now) _ c.args.depth c.args.least _ c.args.place c.in-Some.m c.in-Some.ensures.game c.requires.inner (sym c.in-Some.ensures.move_) (neg-is _ c.requires.small)
    (c.walk_child-walked.ensures.shown inv (is-done _ _ c.is_done.ensures c.if-not-is_done.false))

pub walk_below-returns-clause-true_ : goal.walk_below-returns-clause-true_
walk_below-returns-clause-true_ g t c =
    let same : to_z w32 (of_z w32 c.args.least) ≡ c.args.least = omega (arith, ints, c.requires.small.low, c.requires.small.high) in
    λ inv. c.keep.ensures.true_ (c.walk_child-walked.ensures.true_ inv)
    (keeps-still (g.G.Game.history c.args.game.now) _ c.args.depth c.args.least _ (c.walk_child-walked.ensures.game ∙ c.in-Some.ensures.game) same
    (game-index (g.G.Game.history c.args.game.now) _ c.args.depth c.args.least _ c.args.place c.in-Some.m c.in-Some.ensures.game c.requires.inner (sym c.in-Some.ensures.move_) (neg-is _ c.requires.small)
    (c.walk_child-walked.ensures.shown inv (is-done _ _ c.is_done.ensures c.if-not-is_done.false))))

pub walk_below-returns-then-not-is_done-clause-told : goal.walk_below-returns-then-not-is_done-clause-told
walk_below-returns-then-not-is_done-clause-told g t c =
    let R = g.W.Walker.rules in
    below-stops R g.W.Walker.sight g.met.W.Walker.carries_on (g.G.Game.history c.args.game.now) _ c.args.depth c.args.least _ c.args.place c.in-Some.m (g.W.Walker.seen c.args.walker.now) (g.W.Walker.seen c.walk_child-walked.new.walker)
    (ending_of R g.W.Walker.ending c.walk_child-walked.result) c.in-Some.ensures.game (neg-is _ c.requires.small) c.in-Some.ensures.move_
    (not-shown R g.W.Walker.ending g.met.W.Walker.ends_short _ _ c.is_done.ensures c.if-not-is_done.true) c.walk_child-walked.ensures.told

pub walk_below-returns-clause-told : goal.walk_below-returns-clause-told
walk_below-returns-clause-told g t c =
    let R = g.W.Walker.rules in
    let same : to_z w32 (of_z w32 c.args.least) ≡ c.args.least = omega (arith, ints, c.requires.small.low, c.requires.small.high) in
    below-done R g.W.Walker.sight (g.G.Game.history c.args.game.now) _ _ c.args.depth c.args.least _ _ c.args.place c.in-Some.m (g.W.Walker.seen c.args.walker.now) (g.W.Walker.seen c.walk_child-walked.new.walker) (g.W.Walker.seen c.keep.new.self)
    (ending_of R g.W.Walker.ending c.walk_child-walked.result) c.in-Some.ensures.game (neg-is _ c.requires.small) c.in-Some.ensures.move_ (is-shown R g.W.Walker.ending _ _ c.is_done.ensures c.if-not-is_done.false) c.walk_child-walked.ensures.told
    (c.walk_child-walked.ensures.game ∙ c.in-Some.ensures.game) same c.keep.ensures.told

pub walk_child-returns-clause-shown : goal.walk_child-returns-clause-shown
walk_child-returns-clause-shown g t c = λ inv done. shown-child _ _ c.args.m c.args.depth c.args.limit c.play.ensures.moved (c.walk_claim-walked.ensures.shown inv done)

pub walk_child-returns-clause-told : goal.walk_child-returns-clause-told
walk_child-returns-clause-told g t c =
    follows-child g.W.Walker.rules g.W.Walker.sight _ _ c.args.m c.args.depth c.args.limit (g.W.Walker.seen c.args.walker.now) (g.W.Walker.seen c.walk_claim-walked.new.walker)
    (ending_of g.W.Walker.rules g.W.Walker.ending c.walk_claim-walked.result) c.play.ensures.moved c.walk_claim-walked.ensures.told

pub walk_moves-walk_child-walked-requires : goal.walk_moves-walk_child-walked-requires
walk_moves-walk_child-walked-requires g t c κs within =
    let turn = c.loop-i.invariant in (
      search rules,
      (
        within.0,
        (
          within.1.0,
          (
            within.1.1,
            (
              level-reply _ _ _ _ c.args.depth c.args.level c.loop-i.i c.get-m.result c.requires.replies (record { game = turn.game; stack = turn.stack }) c.get-m.ensures,
              c.requires.small,
            ),
          ),
        ),
      ),
    )

pub walk_moves-returns-then-not-is_done-clause-told : goal.walk_moves-returns-then-not-is_done-clause-told
walk_moves-returns-then-not-is_done-clause-told g t c =
    let R = g.W.Walker.rules in
    let turn = c.loop-i.invariant in
    let start = g.G.Game.history c.args.game.now in
    let here : slice_get (moves (position start)) c.loop-i.i ≡ Some c.get-m.result = here-in _ _ _ _ _ _ turn.stack c.requires.replies.listed c.get-m.ensures in
    let ending = ending_of R g.W.Walker.ending c.walk_child-walked.result in
    let now = g.W.Walker.seen c.walk_child-walked.new.walker in
    turn.told ending now
    (turn-stops R g.W.Walker.sight g.met.W.Walker.carries_on start _ c.args.depth c.args.limit c.loop-i.i c.args.to c.get-m.result (g.W.Walker.seen c.loop-i.walker) now ending turn.game here
    c.loop-i-test.true (not-shown R g.W.Walker.ending g.met.W.Walker.ends_short _ _ c.is_done.ensures (search rules)) c.walk_child-walked.ensures.told)

pub walk_moves-loop-i-preserved : goal.walk_moves-loop-i-preserved
walk_moves-loop-i-preserved g t c =
    let R = g.W.Walker.rules in
    let turn = c.loop-i.invariant in
    let start = g.G.Game.history c.args.game.now in
    let here : slice_get (moves (position start)) c.loop-i.i ≡ Some c.get-m.result = here-in _ _ _ _ _ _ turn.stack c.requires.replies.listed c.get-m.ensures in
    let done = is-done _ _ c.is_done.ensures (search rules) in
    let now = g.W.Walker.seen c.walk_child-walked.new.walker in
    record {
      game = c.walk_child-walked.ensures.game ∙ turn.game;
      stack = c.walk_child-walked.ensures.stack ∙ turn.stack;
      true_ = λ inv. c.walk_child-walked.ensures.true_ (turn.true_ inv);
      shown = λ inv later. turn.shown inv (turn-shown start _ c.args.depth c.args.limit c.loop-i.i c.args.to c.get-m.result turn.game here c.loop-i-test.true (c.walk_child-walked.ensures.shown (turn.true_ inv) done) later);
      told = λ w n later. turn.told w n
          (turn-told R g.W.Walker.sight start _ c.args.depth c.args.limit c.loop-i.i c.args.to c.get-m.result (g.W.Walker.seen c.loop-i.walker) now (ending_of R g.W.Walker.ending c.walk_child-walked.result) turn.game here
          c.loop-i-test.true (ap (ending_of R g.W.Walker.ending) done) c.walk_child-walked.ensures.told w n later);
      goes = search rules;
    }

pub walk_moves-returns-clause-told : goal.walk_moves-returns-clause-told
walk_moves-returns-clause-told g t c =
    let now = g.W.Walker.seen c.loop-i.walker in
    c.loop-i.invariant.told Shown now
    (turn-past g.W.Walker.rules g.W.Walker.sight (position (g.G.Game.history c.args.game.now)) c.args.depth c.args.limit c.loop-i.i c.args.to now c.loop-i-test.false)

pub walk_moves-returns-then-not-is_done-clause-part : goal.walk_moves-returns-then-not-is_done-clause-part
walk_moves-returns-then-not-is_done-clause-part g t c = part-behind g.W.Walker.parts c.walk_child-walked.result _ _ _ c.loop-i.invariant.goes c.walk_child-walked.ensures.part

pub walk_claim-returns-in-Some-clause-shown : goal.walk_claim-returns-in-Some-clause-shown
walk_claim-returns-in-Some-clause-shown g t c =
    let fits : SFits w32 c.in-Some.worth = search rules in
    λ inv done. subst (Keeps c.args.limit) (to_z-of_z w32 _ fits ∙ c.in-Some.ensures.leaf) (c.leaf_answer.ensures.kept done)

pub walk_claim-returns-in-Some-clause-part : goal.walk_claim-returns-in-Some-clause-part
walk_claim-returns-in-Some-clause-part g t c = part-leaf g.W.Walker.parts _ _ _ c.leaf_answer.ensures.answer

pub walk_claim-returns-in-AtMost-clause-shown : goal.walk_claim-returns-in-AtMost-clause-shown
walk_claim-returns-in-AtMost-clause-shown g t c =
    let x = c.in-AtMost.most in
    let small : IsSmall 1000100 x = number-small c.args.limit x (AtMost x) c.in-AtMost.is refl c.requires.small in
    let same : to_z w32 (of_z w32 x) ≡ x = omega (arith, ints, small.low, small.high) in
    λ inv done. claim-keeps (g.G.Game.history c.args.game.now) _ c.args.depth (λ z. AtMost z) c.args.limit x _ c.in-AtMost.is c.in_default.ensures.same same (c.walk_every.ensures.shown inv done)

pub walk_claim-returns-in-AtMost-clause-true_ : goal.walk_claim-returns-in-AtMost-clause-true_
walk_claim-returns-in-AtMost-clause-true_ g t c = c.walk_every.ensures.true_

pub walk_claim-returns-in-AtMost-clause-told : goal.walk_claim-returns-in-AtMost-clause-told
walk_claim-returns-in-AtMost-clause-told g t c =
    let x = c.in-AtMost.most in
    let small : IsSmall 1000100 x = number-small c.args.limit x (AtMost x) c.in-AtMost.is refl c.requires.small in
    let same : to_z w32 (of_z w32 x) ≡ x = omega (arith, ints, small.low, small.high) in
    claim-told g.W.Walker.rules g.W.Walker.sight (g.G.Game.history c.args.game.now) _ c.args.depth (λ z. AtMost z) c.args.limit x _ (g.W.Walker.seen c.args.walker.now) (g.W.Walker.seen c.walk_every.new.walker)
    (ending_of g.W.Walker.rules g.W.Walker.ending c.walk_every.result) c.in-AtMost.is c.in_default.ensures.same same c.walk_every.ensures.told

pub walk_claim-returns-in-AtMost-clause-part : goal.walk_claim-returns-in-AtMost-clause-part
walk_claim-returns-in-AtMost-clause-part g t c = c.walk_every.ensures.part

pub walk_claim-returns-in-AtMost-clause-game : goal.walk_claim-returns-in-AtMost-clause-game
walk_claim-returns-in-AtMost-clause-game g t c = c.walk_every.ensures.game ∙ c.in_default.ensures.same

pub walk_claim-returns-in-AtMost-clause-stack : goal.walk_claim-returns-in-AtMost-clause-stack
walk_claim-returns-in-AtMost-clause-stack g t c = c.walk_every.ensures.stack

pub walk_claim-returns-in-Below-clause-shown : goal.walk_claim-returns-in-Below-clause-shown
walk_claim-returns-in-Below-clause-shown g t c =
    let x = c.in-AtLeast.least in
    let small : IsSmall 1000100 x = number-small c.args.limit x (AtLeast x) c.in-AtLeast.is refl c.requires.small in
    let same : to_z w32 (of_z w32 x) ≡ x = omega (arith, ints, small.low, small.high) in
    λ inv done. claim-keeps (g.G.Game.history c.args.game.now) _ c.args.depth (λ z. AtLeast z) c.args.limit x _ c.in-AtLeast.is (c.in-Below.ensures.game ∙ c.in_default.ensures.same) same
    (c.walk_below.ensures.shown (c.in-Below.ensures.true_ inv) done)

pub walk_claim-returns-in-Below-clause-true_ : goal.walk_claim-returns-in-Below-clause-true_
walk_claim-returns-in-Below-clause-true_ g t c = λ inv. c.walk_below.ensures.true_ (c.in-Below.ensures.true_ inv)

pub walk_claim-returns-in-Below-clause-part : goal.walk_claim-returns-in-Below-clause-part
walk_claim-returns-in-Below-clause-part g t c = part-behind g.W.Walker.parts c.walk_below.result _ _ _ c.in-Below.ensures.part c.walk_below.ensures.part

pub walk_claim-returns-in-Below-clause-game : goal.walk_claim-returns-in-Below-clause-game
walk_claim-returns-in-Below-clause-game g t c = c.walk_below.ensures.game ∙ c.in-Below.ensures.game ∙ c.in_default.ensures.same

pub walk_claim-returns-in-Below-clause-stack : goal.walk_claim-returns-in-Below-clause-stack
walk_claim-returns-in-Below-clause-stack g t c = c.walk_below.ensures.stack ∙ c.in-Below.ensures.stack

pub walk_claim-returns-in-Shown-clause-shown : goal.walk_claim-returns-in-Shown-clause-shown
walk_claim-returns-in-Shown-clause-shown g t c =
    let x = c.in-AtLeast.least in
    let small : IsSmall 1000100 x = number-small c.args.limit x (AtLeast x) c.in-AtLeast.is refl c.requires.small in
    let same : to_z w32 (of_z w32 x) ≡ x = omega (arith, ints, small.low, small.high) in
    λ inv done. claim-keeps (g.G.Game.history c.args.game.now) _ c.args.depth (λ z. AtLeast z) c.args.limit x _ c.in-AtLeast.is c.in_default.ensures.same same (c.in-Shown.ensures.shown inv refl)

pub walk_claim-returns-in-Shown-clause-true_ : goal.walk_claim-returns-in-Shown-clause-true_
walk_claim-returns-in-Shown-clause-true_ g t c = c.in-Shown.ensures.true_

pub walk_claim-returns-in-Shown-clause-part : goal.walk_claim-returns-in-Shown-clause-part
walk_claim-returns-in-Shown-clause-part g t c = c.in-Shown.ensures.part

pub walk_claim-returns-in-Shown-clause-game : goal.walk_claim-returns-in-Shown-clause-game
walk_claim-returns-in-Shown-clause-game g t c = c.in-Shown.ensures.game ∙ c.in_default.ensures.same

pub walk_claim-returns-in-Shown-clause-stack : goal.walk_claim-returns-in-Shown-clause-stack
walk_claim-returns-in-Shown-clause-stack g t c = c.in-Shown.ensures.stack

pub walk_claim-returns-in-Stops-clause-true_ : goal.walk_claim-returns-in-Stops-clause-true_
walk_claim-returns-in-Stops-clause-true_ g t c = c.in-Stops.ensures.true_

pub walk_claim-returns-in-Stops-clause-part : goal.walk_claim-returns-in-Stops-clause-part
walk_claim-returns-in-Stops-clause-part g t c = c.in-Stops.ensures.part

pub walk_claim-returns-in-Stops-clause-game : goal.walk_claim-returns-in-Stops-clause-game
walk_claim-returns-in-Stops-clause-game g t c = c.in-Stops.ensures.game ∙ c.in_default.ensures.same

pub walk_claim-returns-in-Stops-clause-stack : goal.walk_claim-returns-in-Stops-clause-stack
walk_claim-returns-in-Stops-clause-stack g t c = c.in-Stops.ensures.stack

pub walk_every-returns-clause-true_ : goal.walk_every-returns-clause-true_
walk_every-returns-clause-true_ g t c = c.walk_moves-walked.ensures.true_

pub walk_every-returns-clause-part : goal.walk_every-returns-clause-part
walk_every-returns-clause-part g t c = c.walk_moves-walked.ensures.part

pub walk_every-returns-clause-game : goal.walk_every-returns-clause-game
walk_every-returns-clause-game g t c = c.walk_moves-walked.ensures.game ∙ c.list.ensures.same

pub walk_every-returns-clause-stack : goal.walk_every-returns-clause-stack
walk_every-returns-clause-stack g t c =
    level-dropped c.args.stack.now _ _ _ _ (omega (arith, c.requires.room.free, c.requires.inner.deep)) c.list.ensures.listed c.walk_moves-walked.ensures.stack c.drop_level.ensures

pub walk_below-returns-in_default-clause-told : goal.walk_below-returns-in_default-clause-told
walk_below-returns-in_default-clause-told g t c =
    below-none g.W.Walker.rules g.W.Walker.sight g.met.W.Walker.counts (position (g.G.Game.history c.args.game.now)) c.args.depth c.args.least c.args.place (g.W.Walker.seen c.args.walker.now) c.in_default.ensures.move_

pub walk_below-returns-in_default-clause-part : goal.walk_below-returns-in_default-clause-part
walk_below-returns-in_default-clause-part g t c = g.W.Walker.parts.none c.args.walker.now

pub walk_below-returns-then-not-is_done-clause-shown : goal.walk_below-returns-then-not-is_done-clause-shown
walk_below-returns-then-not-is_done-clause-shown g t c = λ inv done. absurd (not-done _ _ c.is_done.ensures c.if-not-is_done.true done)

pub walk_below-returns-then-not-is_done-clause-true_ : goal.walk_below-returns-then-not-is_done-clause-true_
walk_below-returns-then-not-is_done-clause-true_ g t c = c.walk_child-walked.ensures.true_

pub walk_below-returns-then-not-is_done-clause-part : goal.walk_below-returns-then-not-is_done-clause-part
walk_below-returns-then-not-is_done-clause-part g t c = c.walk_child-walked.ensures.part

pub walk_below-returns-then-not-is_done-clause-game : goal.walk_below-returns-then-not-is_done-clause-game
walk_below-returns-then-not-is_done-clause-game g t c = c.walk_child-walked.ensures.game ∙ c.in-Some.ensures.game

pub walk_below-returns-then-not-is_done-clause-stack : goal.walk_below-returns-then-not-is_done-clause-stack
walk_below-returns-then-not-is_done-clause-stack g t c = c.walk_child-walked.ensures.stack ∙ c.in-Some.ensures.stack

pub walk_below-returns-clause-part : goal.walk_below-returns-clause-part
walk_below-returns-clause-part g t c = part-keeps g.W.Walker.parts _ _ _ _ _ c.is_done.ensures c.if-not-is_done.false c.walk_child-walked.ensures.part c.keep.ensures.part

pub walk_below-returns-clause-game : goal.walk_below-returns-clause-game
walk_below-returns-clause-game g t c = c.walk_child-walked.ensures.game ∙ c.in-Some.ensures.game

pub walk_below-returns-clause-stack : goal.walk_below-returns-clause-stack
walk_below-returns-clause-stack g t c = c.walk_child-walked.ensures.stack ∙ c.in-Some.ensures.stack

pub walk_child-returns-clause-true_ : goal.walk_child-returns-clause-true_
walk_child-returns-clause-true_ g t c = c.walk_claim-walked.ensures.true_

pub walk_child-returns-clause-part : goal.walk_child-returns-clause-part
walk_child-returns-clause-part g t c = c.walk_claim-walked.ensures.part

pub walk_child-returns-clause-game : goal.walk_child-returns-clause-game
walk_child-returns-clause-game g t c = move-undone _ _ _ _ _ (omega (arith, c.requires.can.spare)) c.play.ensures.moved c.walk_claim-walked.ensures.game c.undo.ensures.back

pub walk_child-returns-clause-stack : goal.walk_child-returns-clause-stack
walk_child-returns-clause-stack g t c = c.walk_claim-walked.ensures.stack

pub walk_child-undo-requires : goal.walk_child-undo-requires
walk_child-undo-requires g t c = move-made _ _ _ _ c.play.ensures.moved c.walk_claim-walked.ensures.game

pub walk_moves-loop-i-init : goal.walk_moves-loop-i-init
walk_moves-loop-i-init g t c = record {
  game = refl;
  stack = refl;
  true_ = λ inv. inv;
  shown = λ inv later. later;
  told = λ w n later. later;
  goes = g.W.Walker.parts.none c.args.walker.now;
}

pub walk_moves-returns-then-not-is_done-clause-shown : goal.walk_moves-returns-then-not-is_done-clause-shown
walk_moves-returns-then-not-is_done-clause-shown g t c = λ inv done. absurd (not-done _ _ c.is_done.ensures c.if-not-is_done.true done)

pub walk_moves-returns-then-not-is_done-clause-true_ : goal.walk_moves-returns-then-not-is_done-clause-true_
walk_moves-returns-then-not-is_done-clause-true_ g t c = λ inv. c.walk_child-walked.ensures.true_ (c.loop-i.invariant.true_ inv)

pub walk_moves-returns-then-not-is_done-clause-game : goal.walk_moves-returns-then-not-is_done-clause-game
walk_moves-returns-then-not-is_done-clause-game g t c = c.walk_child-walked.ensures.game ∙ c.loop-i.invariant.game

pub walk_moves-returns-then-not-is_done-clause-stack : goal.walk_moves-returns-then-not-is_done-clause-stack
walk_moves-returns-then-not-is_done-clause-stack g t c = c.walk_child-walked.ensures.stack ∙ c.loop-i.invariant.stack

pub walk_moves-returns-clause-shown : goal.walk_moves-returns-clause-shown
walk_moves-returns-clause-shown g t c = λ inv done. c.loop-i.invariant.shown inv (shown-past _ _ _ _ _ c.loop-i-test.false)

pub walk_moves-returns-clause-true_ : goal.walk_moves-returns-clause-true_
walk_moves-returns-clause-true_ g t c = c.loop-i.invariant.true_

pub walk_moves-returns-clause-part : goal.walk_moves-returns-clause-part
walk_moves-returns-clause-part g t c = c.loop-i.invariant.goes

pub walk_moves-returns-clause-game : goal.walk_moves-returns-clause-game
walk_moves-returns-clause-game g t c = c.loop-i.invariant.game

pub walk_moves-returns-clause-stack : goal.walk_moves-returns-clause-stack
walk_moves-returns-clause-stack g t c = c.loop-i.invariant.stack

pub walk_child-walk_claim-walked-requires : goal.walk_child-walk_claim-walked-requires
walk_child-walk_claim-walked-requires g t c κs within = (
  search rules,
  (within.0, (within.1.0, (within.1.1, (c.requires.small, reply-room _ _ _ c.args.m _ c.requires.can c.play.ensures.moved)))),
)

pub walk_every-walk_moves-walked-requires : goal.walk_every-walk_moves-walked-requires
walk_every-walk_moves-walked-requires g t c κs within =
    let start = g.G.Game.history c.args.game.now in
    let all = count-of-level c.list.new.out c.args.stack.now (moves (position start)) c.levels-level.result c.level_len-count.result c.list.ensures.listed c.levels-level.ensures c.level_len-count.ensures in
    let node = node-listed start start _ _ _ c.args.depth c.levels-level.result c.requires.room c.requires.inner refl c.list.ensures.same c.list.ensures.listed c.levels-level.ensures in (
      search rules,
      (
        within.0,
        (
          within.1.0,
          (
            within.1.1,
            (
              node-replies _ _ c.args.depth c.levels-level.result node,
              (small-turned _ c.requires.small, subst (λ (h : History). c.level_len-count.result ≤ length (moves (position h))) (sym c.list.ensures.same) (omega (arith, all))),
            ),
          ),
        ),
      ),
    )
