-- The loop over the moves in the order of the list.
use Rattle.std.proofs.Common.{rules, ◌≡◌, ◌<ℤ◌, ◌≤ℤ◌, ◌≤◌, ◌-◌, length, to_z, of_z, Some, sym, ap, arith, ◌∙◌}
use Rattle.std.specs.List.{slice_get}
use Rattle.std.specs.Int.{int_max}
use mir.Val.{SFits}
use mir.Syntax.{w32}
use Rattle.std.proofs.lemmas.Int.{to_z-of_z}
use Rattle.hive_model.specs.Legal.{moves}
use Rattle.hive_model.specs.Games.{after}
use Rattle.hive_model.specs.Minimax.{nodes, reply_value}
use Rattle.hive_model.specs.Costs.{cost}
use Rattle.std.specs.Prelude.{◌+◌, neg_ℤ}
use Rattle.hive_model.specs.Histories.{position}
use Rattle.search_laws.proofs.Signs.{at-least, below}
use Rattle.search_laws.proofs.NodeLaws.{node-reply}
use Rattle.search_laws.specs.declared.window.Window.{Window}
use Rattle.search_laws.proofs.TurnLaws.{LoopTurn, cut-found, turn-rest, turn-plays, end-found, turn-made}
use Rattle.search_laws.proofs.HintLaws.{cut-tries, at-place, skip-rest, skip-plays, here-in}
use Rattle.search_core.proofs.PassLaws.{or-false, held-low, left-falls, pass-plays, passed-on, passed-here, spends-saved, spends-to}
use Rattle.search_core.proofs.TimeLaws.{turn-left, turn-nodes, stop-tries, less, raised-low, raised-high}
use Rattle.search_core.proofs.CountLaws.{in_time-then}
use Rattle.search_core.proofs.WindowLaws.{beta-coded, open-raised, at-most-then}
use Rattle.search_core.proofs.CreditLaws.{ended-then}
use Rattle.search_core.specs.Moments.{moment_within}
use Rattle.search_core.proofs.MomentLaws.{spends-as, spends-then, spends-here, answers-some, answers-no}
use Rattle.search_core.proofs.+search.Goals as goal

pub rest::search_rest-loop-i-preserved-then-hold : goal.rest::search_rest-loop-i-preserved-then-hold
rest::search_rest-loop-i-preserved-then-hold g t c =
    let turn = c.loop-i.invariant in
    let p = position (g.G.Game.history c.args.game.now) in
    let d = c.args.node.depth in
    let all : c.level_len-count.result ≡ length (moves p) = c.level_len-count.ensures ∙ ap length c.requires.node.listed.listed in
    let place = at-place (moves p) c.loop-i.i (omega (arith, all, c.loop-i-test.true)) in
    let worth = held-low p (d - 1) c.loop-i.i place.0 c.args.node.window.alpha c.args.places.hint c.args.places.first c.args.places.second
    c.requires.tried.hint c.requires.tried.first c.requires.tried.second place.1 (sym c.hold.ensures ∙ c.if-hold.true) in
    let low : reply_value p (d - 1) place.0 ≤ℤ to_z w32 c.loop-i.alpha-bits = at-most-then (reply_value p (d - 1) place.0) c.args.node.window.alpha (to_z w32 c.loop-i.alpha-bits) worth turn.low in
    let fewer = left-falls p d c.loop-i.i place.0 c.args.places.hint place.1 in
    record {
      low = turn.low;
      high = turn.high;
      left = omega (arith, turn.left, fewer);
      spends = spends-as _ _ _ _ _ _ turn.spends (omega (arith, fewer)) (omega arith);
      in_time = turn.in_time;
      rest = skip-rest p d c.loop-i.i place.0 (to_z w32 c.loop-i.alpha-bits) _ place.1 low turn.rest;
      passed = passed-on p (d - 1) (to_z w32 c.loop-i.alpha-bits) c.loop-i.i c.loop-i.candidate turn.passed;
      plays = skip-plays p d c.loop-i.i place.0 c.args.node.window (to_z w32 c.loop-i.alpha-bits) _ _ place.1 low turn.high turn.plays;
    }

pub rest::search_rest-loop-i-preserved-then-i-candidate : goal.rest::search_rest-loop-i-preserved-then-i-candidate
rest::search_rest-loop-i-preserved-then-i-candidate g t c =
    let at = moment_within g.G.Game.history g.G.Game.played g.C.Clock.readings g.C.Clock.last g.C.Clock.previous in
    let turn = c.loop-i.invariant in
    let start = at c.args.game.now c.args.work.now c.args.clock.now in
    let now = at c.loop-i.game c.loop-i.work c.loop-i.clock in
    let p = position (g.G.Game.history c.args.game.now) in
    let d = c.args.node.depth in
    let all : c.level_len-count.result ≡ length (moves p) = c.level_len-count.ensures ∙ ap length c.requires.node.listed.listed in
    let place = at-place (moves p) c.loop-i.i (omega (arith, all, c.loop-i-test.true)) in
    let low : reply_value p (d - 1) place.0 ≤ℤ to_z w32 c.loop-i.alpha-bits = turn.passed c.loop-i.i place.0 (omega arith) (omega (arith, c.if-i-candidate.true)) place.1 in
    let other = or-false _ _ _ (sym c.hold.ensures ∙ c.if-hold.false) in
    let fewer = turn-nodes p d c.loop-i.i place.0 c.args.places.hint place.1 other turn.left in
    let one : c.save.new.self.saved ≤ now.credit.saved + 1 = c.save.ensures.one in
    record {
      low = turn.low;
      high = turn.high;
      left = less _ _ _ _ (turn-left p d c.loop-i.i place.0 c.args.places.hint place.1 other) turn.left;
      spends = spends-as start (record now { credit = c.save.new.self }) _ _ _ _ (spends-saved start now _ _ c.save.new.self turn.spends c.save.ensures.mode one c.save.ensures.early) (omega (arith, fewer)) (omega arith);
      in_time = turn.in_time;
      rest = skip-rest p d c.loop-i.i place.0 (to_z w32 c.loop-i.alpha-bits) _ place.1 low turn.rest;
      passed = passed-on p (d - 1) (to_z w32 c.loop-i.alpha-bits) c.loop-i.i c.loop-i.candidate turn.passed;
      plays = pass-plays p d c.loop-i.i place.0 c.args.node.window (to_z w32 c.loop-i.alpha-bits) _ _ _ place.1 low turn.high (omega (arith, one)) turn.plays;
    }

pub rest::search_rest-reply_with-requires : goal.rest::search_rest-reply_with-requires
rest::search_rest-reply_with-requires g t c κs within =
    let turn = c.loop-i.invariant in (
      search rules,
      (
        within.0,
        (
          within.1,
          record {
            window = open-raised c.args.node.window (to_z w32 c.loop-i.alpha-bits) c.requires.node.window turn.low turn.high;
            can = node-reply (g.G.Game.history c.args.game.now) _ _ _ c.args.node.depth c.args.level c.loop-i.i c.get-m.result c.requires.node.listed turn.spends.before c.get-m.ensures;
          },
        ),
      ),
    )

pub rest::search_rest-returns-in_err-found-clause-spends : goal.rest::search_rest-returns-in_err-found-clause-spends
rest::search_rest-returns-in_err-found-clause-spends g t c =
    let at = moment_within g.G.Game.history g.G.Game.played g.C.Clock.readings g.C.Clock.last g.C.Clock.previous in
    let turn = c.loop-i.invariant in
    let start = g.G.Game.history c.args.game.now in
    let p = position start in
    let d = c.args.node.depth in
    let same = turn.spends.before.game in
    let beta : to_z w32 (of_z w32 c.args.node.window.beta) ≡ c.args.node.window.beta = beta-coded c.args.node.window c.requires.node.window in
    let here : slice_get (moves p) c.loop-i.i ≡ Some c.get-m.result = here-in _ _ _ _ _ _ turn.spends.before.stack c.requires.node.listed.listed c.get-m.ensures in
    let inner : Window = record { alpha = to_z w32 c.loop-i.alpha-bits; beta = to_z w32 (of_z w32 c.args.node.window.beta) } in
    let tried = spends-here (λ q. 1 + nodes (after q c.get-m.result) (d - 1)) (λ q. 1 + cost (after q c.get-m.result) (d - 1) (neg_ℤ inner.beta) (neg_ℤ inner.alpha)) start
    (at c.loop-i.game c.loop-i.work c.loop-i.clock) (at c.reply_with.new.game c.reply_with.new.work c.reply_with.new.clock) same c.reply_with.ensures.spends in
    let fewer = turn-nodes p d c.loop-i.i c.get-m.result c.args.places.hint here (or-false _ _ _ (sym c.hold.ensures ∙ c.if-hold.false)) turn.left in
    spends-as _ _ _ _ _ _ (spends-then _ _ _ _ _ _ _ turn.spends tried) (omega (arith, fewer))
    (stop-tries p d c.args.node.window inner c.loop-i.i c.get-m.result _ _ _ beta here turn.plays tried.played)

pub rest::search_rest-returns-in_err-found-clause-answers : goal.rest::search_rest-returns-in_err-found-clause-answers
rest::search_rest-returns-in_err-found-clause-answers g t c =
    answers-no _ c.from_residual.result _ _ (search rules) (ended-then _ _ _ _ _ _ _ _ c.loop-i.invariant.spends.time.deadline c.loop-i.invariant.in_time (c.reply_with.ensures.answers.ended c.in_err-found.was))

pub rest::search_rest-returns-then-found-child-clause-spends : goal.rest::search_rest-returns-then-found-child-clause-spends
rest::search_rest-returns-then-found-child-clause-spends g t c =
    let at = moment_within g.G.Game.history g.G.Game.played g.C.Clock.readings g.C.Clock.last g.C.Clock.previous in
    let turn = c.loop-i.invariant in
    let start = g.G.Game.history c.args.game.now in
    let p = position start in
    let d = c.args.node.depth in
    let same = turn.spends.before.game in
    let beta : to_z w32 (of_z w32 c.args.node.window.beta) ≡ c.args.node.window.beta = beta-coded c.args.node.window c.requires.node.window in
    let here : slice_get (moves p) c.loop-i.i ≡ Some c.get-m.result = here-in _ _ _ _ _ _ turn.spends.before.stack c.requires.node.listed.listed c.get-m.ensures in
    let inner : Window = record { alpha = to_z w32 c.loop-i.alpha-bits; beta = to_z w32 (of_z w32 c.args.node.window.beta) } in
    let tried = spends-here (λ q. 1 + nodes (after q c.get-m.result) (d - 1)) (λ q. 1 + cost (after q c.get-m.result) (d - 1) (neg_ℤ inner.beta) (neg_ℤ inner.alpha)) start
    (at c.loop-i.game c.loop-i.work c.loop-i.clock) (at c.reply_with.new.game c.reply_with.new.work c.reply_with.new.clock) same c.reply_with.ensures.spends in
    let fewer = turn-nodes p d c.loop-i.i c.get-m.result c.args.places.hint here (or-false _ _ _ (sym c.hold.ensures ∙ c.if-hold.false)) turn.left in
    let made : LoopTurn p d c.args.node.window inner c.loop-i.i c.get-m.result c.in_ok-found.found =
    turn-made _ _ _ _ _ c.args.node.window _ _ c.requires.node.listed.inner here same beta turn.low turn.high c.in_ok-found.ensures.answers.found in
    spends-as _ _ _ _ _ _ (spends-then _ _ _ _ _ _ _ turn.spends tried) (omega (arith, fewer))
    (cut-tries _ _ _ _ c.loop-i.i _ _ _ _ _ made turn.plays tried.played)

pub rest::search_rest-returns-then-found-child-clause-answers : goal.rest::search_rest-returns-then-found-child-clause-answers
rest::search_rest-returns-then-found-child-clause-answers g t c =
    let turn = c.loop-i.invariant in
    let start = g.G.Game.history c.args.game.now in
    let p = position start in
    let d = c.args.node.depth in
    let same = turn.spends.before.game in
    let beta : to_z w32 (of_z w32 c.args.node.window.beta) ≡ c.args.node.window.beta = beta-coded c.args.node.window c.requires.node.window in
    let here : slice_get (moves p) c.loop-i.i ≡ Some c.get-m.result = here-in _ _ _ _ _ _ turn.spends.before.stack c.requires.node.listed.listed c.get-m.ensures in
    let inner : Window = record { alpha = to_z w32 c.loop-i.alpha-bits; beta = to_z w32 (of_z w32 c.args.node.window.beta) } in
    let made : LoopTurn p d c.args.node.window inner c.loop-i.i c.get-m.result c.in_ok-found.found =
    turn-made _ _ _ _ _ c.args.node.window _ _ c.requires.node.listed.inner here same beta turn.low turn.high c.in_ok-found.ensures.answers.found in
    let fits : SFits w32 c.in_ok-found.found = search rules in
    answers-some _ _ _ _
    (rw (to_z-of_z w32 c.in_ok-found.found fits) (cut-found _ _ _ _ c.loop-i.i _ _ made (at-least _ _ (search rules) fits (rw beta at c.if-found-child.true))))
    (in_time-then _ _ _ _ _ turn.spends.time.deadline turn.in_time c.in_ok-found.ensures.answers.in_time)

pub rest::search_rest-loop-i-preserved : goal.rest::search_rest-loop-i-preserved
rest::search_rest-loop-i-preserved g t c =
    let at = moment_within g.G.Game.history g.G.Game.played g.C.Clock.readings g.C.Clock.last g.C.Clock.previous in
    let turn = c.loop-i.invariant in
    let start = g.G.Game.history c.args.game.now in
    let p = position start in
    let d = c.args.node.depth in
    let same = turn.spends.before.game in
    let beta : to_z w32 (of_z w32 c.args.node.window.beta) ≡ c.args.node.window.beta = beta-coded c.args.node.window c.requires.node.window in
    let here : slice_get (moves p) c.loop-i.i ≡ Some c.get-m.result = here-in _ _ _ _ _ _ turn.spends.before.stack c.requires.node.listed.listed c.get-m.ensures in
    let inner : Window = record { alpha = to_z w32 c.loop-i.alpha-bits; beta = to_z w32 (of_z w32 c.args.node.window.beta) } in
    let tried = spends-here (λ q. 1 + nodes (after q c.get-m.result) (d - 1)) (λ q. 1 + cost (after q c.get-m.result) (d - 1) (neg_ℤ inner.beta) (neg_ℤ inner.alpha)) start
    (at c.loop-i.game c.loop-i.work c.loop-i.clock) (at c.reply_with.new.game c.reply_with.new.work c.reply_with.new.clock) same c.reply_with.ensures.spends in
    let fewer = turn-nodes p d c.loop-i.i c.get-m.result c.args.places.hint here (or-false _ _ _ (sym c.hold.ensures ∙ c.if-hold.false)) turn.left in
    let made : LoopTurn p d c.args.node.window inner c.loop-i.i c.get-m.result c.in_ok-found.found =
    turn-made _ _ _ _ _ c.args.node.window _ _ c.requires.node.listed.inner here same beta turn.low turn.high c.in_ok-found.ensures.answers.found in
    let fits : SFits w32 c.in_ok-found.found = search rules in
    let under : c.in_ok-found.found <ℤ c.args.node.window.beta = below _ _ (search rules) fits (rw beta at c.if-found-child.false) in
    let raised : to_z w32 (of_z w32 c.max-alpha.result) ≡ int_max inner.alpha c.in_ok-found.found =
    to_z-of_z w32 c.max-alpha.result (search rules) ∙ c.max-alpha.ensures.value ∙ ap (int_max inner.alpha) (to_z-of_z w32 c.in_ok-found.found fits) in
    let tried_then = spends-as _ _ _ _ _ _ (spends-then _ _ _ _ _ _ _ turn.spends tried) (omega (arith, fewer)) (omega arith) in
    let later = c.next_candidate-candidate-in-loop-i in
    record {
      low = raised-low _ _ _ _ turn.low raised;
      high = raised-high _ _ _ _ turn.high under raised;
      rest = turn-rest _ _ _ _ _ _ _ (to_z w32 (of_z w32 c.max-alpha.result)) _ made under raised turn.rest;
      left = less _ _ _ _ (turn-left p d c.loop-i.i c.get-m.result c.args.places.hint here (or-false _ _ _ (sym c.hold.ensures ∙ c.if-hold.false))) turn.left;
      spends = spends-to _ _ _ _ (g.G.Game.history later.new.game) (g.G.Game.played later.new.game) tried_then later.ensures.same later.ensures.count;
      in_time = in_time-then _ _ _ _ _ turn.spends.time.deadline turn.in_time c.in_ok-found.ensures.answers.in_time;
      passed = passed-here start (g.G.Game.history c.reply_with.new.game) (d - 1) _ _ _ tried_then.before.game later.ensures.passed;
      plays = turn-plays _ _ _ _ _ _ _ (to_z w32 (of_z w32 c.max-alpha.result)) _ _ _ made under raised turn.plays (omega (arith, tried.played, later.ensures.count));
    }

pub rest::search_rest-returns-clause-answers : goal.rest::search_rest-returns-clause-answers
rest::search_rest-returns-clause-answers g t c =
    let turn = c.loop-i.invariant in
    answers-some _ _ _ _
    (end-found _ _ _ c.loop-i.i (to_z w32 c.loop-i.alpha-bits) c.requires.node.listed.inner
    (omega (arith, c.loop-i-test.false, c.level_len-count.ensures ∙ ap length c.requires.node.listed.listed)) turn.high turn.rest) turn.in_time
