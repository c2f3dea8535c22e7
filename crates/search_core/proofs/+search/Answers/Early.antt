-- Moves that are tried early, and paid for from the credit.
use Rattle.std.proofs.Common.{rules, ◌≡◌, ◌+◌, ◌-◌, to_z, of_z, Some, refl, sym, subst, arith}
use Rattle.std.specs.List.{slice_get}
use mir.Val.{SFits}
use mir.Syntax.{w32}
use Rattle.std.proofs.lemmas.Int.{to_z-of_z}
use Rattle.hive_model.specs.Legal.{moves}
use Rattle.hive_model.specs.Minimax.{value, reply_value}
use Rattle.hive_model.specs.Costs.{tries_cost}
use Rattle.hive_model.specs.Histories.{position}
use Rattle.search_laws.specs.Tries.{tried_cost}
use Rattle.search_laws.specs.Found.{IsFound}
use Rattle.search_laws.proofs.NodeLaws.{node-at, node-again, node-reply}
use Rattle.search_laws.specs.declared.window.Window.{Window}
use Rattle.search_core.proofs.CountLaws.{in_time-then}
use Rattle.search_core.proofs.WindowLaws.{Rest, rest-after, rest-then, rest-found, rest-cut}
use Rattle.search_core.proofs.CreditLaws.{ended-then, rest-falls, at_most-more, at_most-here, early-answer}
use Rattle.search_core.specs.Times.{behind, sum_but, IsTriedEarly}
use Rattle.search_core.specs.Moments.{moment_within, Spends}
use Rattle.search_core.proofs.MomentLaws.{spends-as, spends-more, spends-then, spends-from, spends-here, answers-some, answers-no, answers-then}
use Rattle.search_core.proofs.+search.Goals as goal

pub early::search_early-try_early-requires-2 : goal.early::search_early-try_early-requires-2
early::search_early-try_early-requires-2 g t c κs within =
    let at = moment_within g.G.Game.history g.G.Game.played g.C.Clock.readings g.C.Clock.last g.C.Clock.previous in
    let begun = at c.args.game.now c.args.work.now c.args.clock.now in
    let first = at c.try_early.new.game c.try_early.new.work c.try_early.new.clock in
    let spent_one : Spends 0 0 begun first =
    spends-from (λ _. 0) (λ _. 0) begun (g.G.Game.history c.two_told-likely.new.game) (g.G.Game.played c.two_told-likely.new.game) first c.two_told-likely.ensures.same c.two_told-likely.ensures.count c.try_early.ensures.spends in
    let start = g.G.Game.history c.args.game.now in
    let p = position start in
    let d = c.args.node.depth in
    let w = c.args.node.window in
    let inner : Window = record { alpha = to_z w32 (of_z w32 c.max.result); beta = to_z w32 (of_z w32 w.beta) } in
    let one : Rest p d w inner c.in_ok-one.one.place =
    rest-after start (g.G.Game.history c.two_told-likely.new.game) d w c.in_ok-one.one.value c.max.result c.in_ok-one.one.place c.two_told-likely.ensures.same c.requires.node.window (search rules) c.max.ensures.value c.if-one-node.false c.in_ok-one.ensures.answers.found in
    (search rules, (within.0, (within.1, record { window = one.open_; listed = node-again _ _ _ _ _ _ c.requires.node.listed spent_one.before })))

pub early::search_early-returns-in_err-two-clause-spends : goal.early::search_early-returns-in_err-two-clause-spends
early::search_early-returns-in_err-two-clause-spends g t c =
    let at = moment_within g.G.Game.history g.G.Game.played g.C.Clock.readings g.C.Clock.last g.C.Clock.previous in
    let begun = at c.args.game.now c.args.work.now c.args.clock.now in
    let first = at c.try_early.new.game c.try_early.new.work c.try_early.new.clock in
    let spent_one : Spends 0 0 begun first =
    spends-from (λ _. 0) (λ _. 0) begun (g.G.Game.history c.two_told-likely.new.game) (g.G.Game.played c.two_told-likely.new.game) first c.two_told-likely.ensures.same c.two_told-likely.ensures.count c.try_early.ensures.spends in
    let second = at c.try_early-2.new.game c.try_early-2.new.work c.try_early-2.new.clock in
    let spent : Spends 0 0 begun second = spends-more begun second (0 + 0) (0 + 0) 0 0 (spends-then begun first second 0 0 0 0 spent_one c.try_early-2.ensures.spends) (omega arith) (omega arith) in
    spends-more begun second 0 0 _ _ spent (omega arith) (omega arith)

pub early::search_early-returns-in_err-two-clause-answers : goal.early::search_early-returns-in_err-two-clause-answers
early::search_early-returns-in_err-two-clause-answers g t c =
    answers-no _ c.from_residual-in_err-two.result _ _ (search rules) (ended-then _ _ _ _ _ _ _ _ c.try_early.ensures.spends.time.deadline c.in_ok-one.ensures.answers.in_time (c.try_early-2.ensures.answers.ended c.in_err-two.was))

pub early::search_early-returns-then-two-inner-clause-spends : goal.early::search_early-returns-then-two-inner-clause-spends
early::search_early-returns-then-two-inner-clause-spends g t c =
    let at = moment_within g.G.Game.history g.G.Game.played g.C.Clock.readings g.C.Clock.last g.C.Clock.previous in
    let begun = at c.args.game.now c.args.work.now c.args.clock.now in
    let first = at c.try_early.new.game c.try_early.new.work c.try_early.new.clock in
    let spent_one : Spends 0 0 begun first =
    spends-from (λ _. 0) (λ _. 0) begun (g.G.Game.history c.two_told-likely.new.game) (g.G.Game.played c.two_told-likely.new.game) first c.two_told-likely.ensures.same c.two_told-likely.ensures.count c.try_early.ensures.spends in
    let second = at c.try_early-2.new.game c.try_early-2.new.work c.try_early-2.new.clock in
    let spent : Spends 0 0 begun second = spends-more begun second (0 + 0) (0 + 0) 0 0 (spends-then begun first second 0 0 0 0 spent_one c.try_early-2.ensures.spends) (omega arith) (omega arith) in
    spends-more begun second 0 0 _ _ spent (omega arith) (omega arith)

pub early::search_early-returns-then-two-inner-clause-answers : goal.early::search_early-returns-then-two-inner-clause-answers
early::search_early-returns-then-two-inner-clause-answers g t c =
    let at = moment_within g.G.Game.history g.G.Game.played g.C.Clock.readings g.C.Clock.last g.C.Clock.previous in
    let begun = at c.args.game.now c.args.work.now c.args.clock.now in
    let first = at c.try_early.new.game c.try_early.new.work c.try_early.new.clock in
    let spent_one : Spends 0 0 begun first =
    spends-from (λ _. 0) (λ _. 0) begun (g.G.Game.history c.two_told-likely.new.game) (g.G.Game.played c.two_told-likely.new.game) first c.two_told-likely.ensures.same c.two_told-likely.ensures.count c.try_early.ensures.spends in
    let start = g.G.Game.history c.args.game.now in
    let p = position start in
    let d = c.args.node.depth in
    let w = c.args.node.window in
    let inner : Window = record { alpha = to_z w32 (of_z w32 c.max.result); beta = to_z w32 (of_z w32 w.beta) } in
    let one : Rest p d w inner c.in_ok-one.one.place =
    rest-after start (g.G.Game.history c.two_told-likely.new.game) d w c.in_ok-one.one.value c.max.result c.in_ok-one.one.place c.two_told-likely.ensures.same c.requires.node.window (search rules) c.max.ensures.value c.if-one-node.false c.in_ok-one.ensures.answers.found in
    answers-some _ _ _ _
    (subst (IsFound (value p d) w) (sym c.cut_by-cut-then-two-inner.ensures)
    (rest-cut start (g.G.Game.history c.try_early.new.game) d w inner c.in_ok-one.one.place c.in_ok-two.two.place c.in_ok-two.two.value spent_one.before.game c.requires.node.window.open_ one (search rules) c.if-two-inner.true c.in_ok-two.ensures.answers.found))
    (in_time-then _ _ _ _ _ c.try_early.ensures.spends.time.deadline c.in_ok-one.ensures.answers.in_time c.in_ok-two.ensures.answers.in_time)

pub early::search_early-search_rest-requires : goal.early::search_early-search_rest-requires
early::search_early-search_rest-requires g t c κs within =
    let at = moment_within g.G.Game.history g.G.Game.played g.C.Clock.readings g.C.Clock.last g.C.Clock.previous in
    let begun = at c.args.game.now c.args.work.now c.args.clock.now in
    let first = at c.try_early.new.game c.try_early.new.work c.try_early.new.clock in
    let spent_one : Spends 0 0 begun first =
    spends-from (λ _. 0) (λ _. 0) begun (g.G.Game.history c.two_told-likely.new.game) (g.G.Game.played c.two_told-likely.new.game) first c.two_told-likely.ensures.same c.two_told-likely.ensures.count c.try_early.ensures.spends in
    let second = at c.try_early-2.new.game c.try_early-2.new.work c.try_early-2.new.clock in
    let spent : Spends 0 0 begun second = spends-more begun second (0 + 0) (0 + 0) 0 0 (spends-then begun first second 0 0 0 0 spent_one c.try_early-2.ensures.spends) (omega arith) (omega arith) in
    let start = g.G.Game.history c.args.game.now in
    let p = position start in
    let d = c.args.node.depth in
    let w = c.args.node.window in
    let inner : Window = record { alpha = to_z w32 (of_z w32 c.max.result); beta = to_z w32 (of_z w32 w.beta) } in
    let one : Rest p d w inner c.in_ok-one.one.place =
    rest-after start (g.G.Game.history c.two_told-likely.new.game) d w c.in_ok-one.one.value c.max.result c.in_ok-one.one.place c.two_told-likely.ensures.same c.requires.node.window (search rules) c.max.ensures.value c.if-one-node.false c.in_ok-one.ensures.answers.found in
    let rest : Window = record { alpha = to_z w32 (of_z w32 c.max-2.result); beta = to_z w32 (of_z w32 (to_z w32 (of_z w32 w.beta))) } in
    let two : Rest p d inner rest c.in_ok-two.two.place =
    rest-after start (g.G.Game.history c.try_early.new.game) d inner c.in_ok-two.two.value c.max-2.result c.in_ok-two.two.place spent_one.before.game one.open_ (search rules) c.max-2.ensures.value c.if-two-inner.false c.in_ok-two.ensures.answers.found in
    let both : Rest p d w rest c.in_ok-one.one.place = rest-then p d w inner rest c.in_ok-one.one.place c.in_ok-two.two.place one two in
    let later = g.G.Game.history c.try_early-2.new.game in
    let hint = at_most-here start later (d - 1) rest.alpha c.args.tried spent.before.game (at_most-more p (d - 1) w.alpha rest.alpha c.args.tried both.up.up c.requires.tried) in
    let tried = at_most-here start later (d - 1) rest.alpha c.in_ok-one.one.place spent.before.game both.most in
    let tried_then = at_most-here start later (d - 1) rest.alpha c.in_ok-two.two.place spent.before.game two.most in (
      search rules,
      (
        within.0,
        (
          within.1,
          (record { window = two.open_; listed = node-again _ _ _ _ _ _ c.requires.node.listed spent.before }, record { hint = hint; first = tried; second = tried_then }),
        ),
      ),
    )

pub early::search_early-returns-clause-spends : goal.early::search_early-returns-clause-spends
early::search_early-returns-clause-spends g t c =
    let at = moment_within g.G.Game.history g.G.Game.played g.C.Clock.readings g.C.Clock.last g.C.Clock.previous in
    let begun = at c.args.game.now c.args.work.now c.args.clock.now in
    let first = at c.try_early.new.game c.try_early.new.work c.try_early.new.clock in
    let spent_one : Spends 0 0 begun first =
    spends-from (λ _. 0) (λ _. 0) begun (g.G.Game.history c.two_told-likely.new.game) (g.G.Game.played c.two_told-likely.new.game) first c.two_told-likely.ensures.same c.two_told-likely.ensures.count c.try_early.ensures.spends in
    let second = at c.try_early-2.new.game c.try_early-2.new.work c.try_early-2.new.clock in
    let spent : Spends 0 0 begun second = spends-more begun second (0 + 0) (0 + 0) 0 0 (spends-then begun first second 0 0 0 0 spent_one c.try_early-2.ensures.spends) (omega arith) (omega arith) in
    let start = g.G.Game.history c.args.game.now in
    let p = position start in
    let d = c.args.node.depth in
    let w = c.args.node.window in
    let inner : Window = record { alpha = to_z w32 (of_z w32 c.max.result); beta = to_z w32 (of_z w32 w.beta) } in
    let one : Rest p d w inner c.in_ok-one.one.place =
    rest-after start (g.G.Game.history c.two_told-likely.new.game) d w c.in_ok-one.one.value c.max.result c.in_ok-one.one.place c.two_told-likely.ensures.same c.requires.node.window (search rules) c.max.ensures.value c.if-one-node.false c.in_ok-one.ensures.answers.found in
    let rest : Window = record { alpha = to_z w32 (of_z w32 c.max-2.result); beta = to_z w32 (of_z w32 (to_z w32 (of_z w32 w.beta))) } in
    let two : Rest p d inner rest c.in_ok-two.two.place =
    rest-after start (g.G.Game.history c.try_early.new.game) d inner c.in_ok-two.two.value c.max-2.result c.in_ok-two.two.place spent_one.before.game one.open_ (search rules) c.max-2.ensures.value c.if-two-inner.false c.in_ok-two.ensures.answers.found in
    let both : Rest p d w rest c.in_ok-one.one.place = rest-then p d w inner rest c.in_ok-one.one.place c.in_ok-two.two.place one two in
    let ended = at c.search_rest.new.game c.search_rest.new.work c.search_rest.new.clock in
    let others = spends-here (λ q. sum_but c.args.tried 0 (behind q (d - 1)) (moves q)) (λ q. tries_cost (tried_cost q (d - 1) rest.beta) (reply_value q (d - 1)) rest.alpha rest.beta (moves q)) start second ended spent.before.game c.search_rest.ensures.spends in
    let more = rest-falls p d w rest _ _ both.up.beta both.up.up others.played in
    spends-as begun ended _ _ _ _ (spends-then begun second ended _ _ _ _ spent others) (omega arith) (omega (arith, spent.played, more))

pub early::search_early-returns-clause-answers : goal.early::search_early-returns-clause-answers
early::search_early-returns-clause-answers g t c =
    let at = moment_within g.G.Game.history g.G.Game.played g.C.Clock.readings g.C.Clock.last g.C.Clock.previous in
    let begun = at c.args.game.now c.args.work.now c.args.clock.now in
    let first = at c.try_early.new.game c.try_early.new.work c.try_early.new.clock in
    let spent_one : Spends 0 0 begun first =
    spends-from (λ _. 0) (λ _. 0) begun (g.G.Game.history c.two_told-likely.new.game) (g.G.Game.played c.two_told-likely.new.game) first c.two_told-likely.ensures.same c.two_told-likely.ensures.count c.try_early.ensures.spends in
    let second = at c.try_early-2.new.game c.try_early-2.new.work c.try_early-2.new.clock in
    let spent : Spends 0 0 begun second = spends-more begun second (0 + 0) (0 + 0) 0 0 (spends-then begun first second 0 0 0 0 spent_one c.try_early-2.ensures.spends) (omega arith) (omega arith) in
    let start = g.G.Game.history c.args.game.now in
    let p = position start in
    let d = c.args.node.depth in
    let w = c.args.node.window in
    let inner : Window = record { alpha = to_z w32 (of_z w32 c.max.result); beta = to_z w32 (of_z w32 w.beta) } in
    let one : Rest p d w inner c.in_ok-one.one.place =
    rest-after start (g.G.Game.history c.two_told-likely.new.game) d w c.in_ok-one.one.value c.max.result c.in_ok-one.one.place c.two_told-likely.ensures.same c.requires.node.window (search rules) c.max.ensures.value c.if-one-node.false c.in_ok-one.ensures.answers.found in
    let rest : Window = record { alpha = to_z w32 (of_z w32 c.max-2.result); beta = to_z w32 (of_z w32 (to_z w32 (of_z w32 w.beta))) } in
    let two : Rest p d inner rest c.in_ok-two.two.place =
    rest-after start (g.G.Game.history c.try_early.new.game) d inner c.in_ok-two.two.value c.max-2.result c.in_ok-two.two.place spent_one.before.game one.open_ (search rules) c.max-2.ensures.value c.if-two-inner.false c.in_ok-two.ensures.answers.found in
    let both : Rest p d w rest c.in_ok-one.one.place = rest-then p d w inner rest c.in_ok-one.one.place c.in_ok-two.two.place one two in
    answers-then _ _ c.search_rest.result begun second _ spent.time.deadline
    (in_time-then _ _ _ _ _ c.try_early.ensures.spends.time.deadline c.in_ok-one.ensures.answers.in_time c.in_ok-two.ensures.answers.in_time)
    (λ a found. rest-found start (g.G.Game.history c.try_early-2.new.game) d w rest c.in_ok-one.one.place a.value spent.before.game c.requires.node.window.open_ both found) c.search_rest.ensures.answers

pub early::try_early-reply_with-found-requires : goal.early::try_early-reply_with-found-requires
early::try_early-reply_with-found-requires g t c κs within = (
  search rules,
  (
    within.0,
    (
      within.1,
      record {
        window = c.requires.window;
        can = node-reply _ _ _ _ c.args.node.depth c.args.level c.in-Some.i c.get-m.result c.requires.listed (record { game = refl; stack = refl }) c.get-m.ensures;
      },
    ),
  ),
)

pub early::try_early-returns-in-Some-found-clause-answers : goal.early::try_early-returns-in-Some-found-clause-answers
early::try_early-returns-in-Some-found-clause-answers g t c =
    let p = position (g.G.Game.history c.args.game.now) in
    let fits : SFits w32 c.in-Some-found.value = search rules in
    let number : to_z w32 (of_z w32 c.in-Some-found.value) ≡ c.in-Some-found.value = to_z-of_z w32 c.in-Some-found.value fits in
    let here : slice_get (moves p) c.in-Some.i ≡ Some c.get-m.result = node-at _ _ _ _ c.args.level c.in-Some.i c.get-m.result c.requires.listed refl c.get-m.ensures in
    answers-some _ _ _ _
    (subst (λ z. IsTriedEarly p c.args.node.depth c.args.node.window z (Some c.in-Some.i)) (sym number)
    (early-answer p c.args.node.depth c.in-Some.i c.get-m.result c.args.node.window c.in-Some-found.value (Some c.in-Some.i) c.requires.listed.inner c.requires.window.open_ here refl c.in-Some-found.ensures.answers.found))
    c.in-Some-found.ensures.answers.in_time
