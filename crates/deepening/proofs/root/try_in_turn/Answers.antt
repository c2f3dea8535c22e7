use Rattle.std.proofs.Common.{rules, ◌≡◌, arith, length, refl, ap, ◌∙◌, Some, pos, ◌-ℤ◌, ◌-◌, ◌+◌, ◌≤◌, ◌≤ℤ◌, ◌<ℤ◌, to_z, of_z, ℕ, cond, neg_ℤ}
use Rattle.std.specs.Prelude.{is_some}
use Rattle.std.specs.List.{slice_get}
use Rattle.std.proofs.lemmas.Int.{ints, to_z-of_z}
use mir.Val.{SFits}
use mir.Syntax.{w32}
use Rattle.hive_model.specs.declared.places.Move.{Move}
use Rattle.hive_model.specs.Games.{after}
use Rattle.hive_model.specs.Minimax.{reply_value}
use Rattle.hive_model.specs.Costs.{cost}
use Rattle.hive_model.specs.Histories.{position}
use Rattle.hive_model.specs.Legal.{moves}
use Rattle.search_laws.proofs.MinimaxLaws.{moves-not_over}
use Rattle.search_laws.proofs.Signs.{lt-true, lt-false}
use Rattle.search_laws.specs.declared.window.Window.{Window}
use Rattle.search_laws.proofs.NodeLaws.{node-reply}
use Rattle.search_laws.proofs.HintLaws.{here-in}
use Rattle.search_core.specs.Times.{behind}
use Rattle.search_core.specs.Moments.{moment}
use Rattle.search_core.proofs.TimeLaws.{less}
use Rattle.search_core.proofs.CreditLaws.{ended-then}
use Rattle.search_core.proofs.CountLaws.{in_time-none, in_time-then}
use Rattle.search_core.proofs.MomentLaws.{spends-none, spends-as, spends-then, spends-here, answers-some, answers-no}
use Rattle.deepening.proofs.RootStops.{root-from, root-alpha, known-at, known-if, known-nodes, turns-begin, turns-end, turns-stop, turn-left_of, turn-paid, plays-of}
use Rattle.search_laws.proofs.RootLaws.{Tried, tried, tried-more, tried-less, root-best, root-end, root-value, small-value}
use Rattle.deepening.proofs.root.try_in_turn.Goals as goal
use Rattle.deepening.proofs.root.try_in_turn.Goals.{then-found-greatest, else-found-greatest}

pub get-best-requires-clause-place : goal.get-best-requires-clause-place
get-best-requires-clause-place g c =
    let p = position (g.G.Game.history c.args.game.now) in
    let all : c.level_len-count.result ≡ length (moves p) = c.level_len-count.ensures ∙ ap length c.requires.node.listed in
    omega (arith, all, c.level_len-count.ensures, moves-not_over p c.requires.node.inner.open_)

pub loop-i-init : goal.loop-i-init
loop-i-init g c =
    let p = position (g.G.Game.history c.args.game.now) in
    let small = small-value p c.args.depth c.requires.node.deep in
    record {
      spends = spends-as _ _ 0 0 _ _ (spends-none _) (omega arith) (omega arith);
      root = root-from _ _ _ _ c.requires.node.inner (omega (arith, ints, c.requires.low, c.requires.high, small.high)) (omega (arith, ints, c.requires.low, c.requires.high, small.high));
      plays = turns-begin _ _ _ _ (omega (arith, ints, c.requires.low, c.requires.high, small.high));
      left = omega arith;
      in_time = in_time-none _ _;
    }

pub worth_of-requires-clause-window : goal.worth_of-requires-clause-window
worth_of-requires-clause-window g c =
    let p = position (g.G.Game.history c.args.game.now) in
    let low = c.loop-i.invariant.root.low in
    let top = root-value p c.args.depth c.loop-i.i _ _ c.loop-i.invariant.root in
    let small = small-value p c.args.depth c.requires.node.deep in
    record {
      open_ = omega (arith, ints, top, small.high, low);
      alpha = omega (arith, ints, top, small.high, low);
      beta = omega (arith, ints);
    }

pub worth_of-requires-clause-can : goal.worth_of-requires-clause-can
worth_of-requires-clause-can g c =
    rw c.again.ensures (node-reply (g.G.Game.history c.args.game.now) _ _ _ c.args.depth c.args.level c.loop-i.i c.get-m.result c.requires.node c.loop-i.invariant.spends.before c.get-m.ensures)

pub worth_of-requires-clause-known : goal.worth_of-requires-clause-known
worth_of-requires-clause-known g c =
    let turn = c.loop-i.invariant in
    let p = position (g.G.Game.history c.args.game.now) in
    let here : slice_get (moves p) c.loop-i.i ≡ Some c.get-m.result = here-in _ _ _ _ _ _ turn.spends.before.stack c.requires.node.listed c.get-m.ensures in
    known-if _ c.args.begun.hint c.loop-i.i c.args.begun.worth c.known_at.result c.known_at.ensures
    (λ e. rw (c.again.ensures, turn.spends.before.game)
    (known-at (λ (j : ℕ). (m : Move) → slice_get (moves p) j ≡ Some m → reply_value p (c.args.depth - 1) m ≡ c.args.begun.worth) c.args.begun.hint c.loop-i.i c.requires.known e c.get-m.result here))

pub loop-i-preserved : goal.loop-i-preserved
loop-i-preserved g c =
    let at = moment g.G.Game.history g.G.Game.played g.C.Clock.readings g.C.Clock.last g.C.Clock.previous in
    let start = g.G.Game.history c.args.game.now in
    let p = position start in
    let d = c.args.depth in
    let turn = c.loop-i.invariant in
    let m = c.get-m.result in
    let best = to_z w32 c.loop-i.greatest-bits in
    let same = turn.spends.before.game in
    let alpha = root-alpha p d c.loop-i.i best c.loop-i.best c.requires.node.deep turn.root in
    let here : slice_get (moves p) c.loop-i.i ≡ Some m = here-in _ _ _ _ _ _ turn.spends.before.stack c.requires.node.listed c.get-m.ensures in
    let window : Window = record { alpha = to_z w32 (of_z w32 (best -ℤ pos 1)); beta = pos 1000100 } in
    let earlier = at c.loop-i.game c.loop-i.work c.loop-i.clock in
    let later = at c.worth_of.new.game c.worth_of.new.work c.worth_of.new.clock in
    let spent = rw c.again.ensures at c.worth_of.ensures.spends in
    let more = plays-of earlier later _ _ refl refl spent in
    let spent_here = spends-here (λ q. cond (is_some c.known_at.result) 0 (behind q (d - 1) m)) (λ q. 1 + cost (after q m) (d - 1) (neg_ℤ window.beta) (neg_ℤ window.alpha)) start earlier later same spent in
    let fewer = turn-left_of p d c.loop-i.i m c.args.begun.hint here in
    let paid = turn-paid _ _ _ _ _ fewer turn.left (known-nodes c.args.begun.hint c.loop-i.i c.args.begun.worth c.known_at.result (behind p (d - 1) m) c.known_at.ensures) in
    let fits : SFits w32 c.in_ok-found.found = search rules in
    let left = less _ _ _ _ fewer turn.left in
    let spends = spends-as _ _ _ _ _ _ (spends-then _ _ _ _ _ _ _ turn.spends spent_here) paid (omega arith) in
    let in_time = in_time-then _ _ _ _ _ turn.spends.time.deadline turn.in_time c.in_ok-found.ensures.answers.in_time in
    let made : Tried start d c.loop-i.i best c.loop-i.best m window c.in_ok-found.found
    (g.G.Game.played c.args.game.now) (g.G.Game.played c.loop-i.game) (g.G.Game.played c.worth_of.new.game) =
    tried start _ _ _ _ _ _ _ _ _ _ _ same turn.root here c.requires.node.deep alpha refl (rw c.again.ensures at c.in_ok-found.ensures.answers.found) turn.plays more in
    let found_is : to_z w32 (of_z w32 c.in_ok-found.found) ≡ c.in_ok-found.found = to_z-of_z w32 c.in_ok-found.found fits in
    elim c.if-found-greatest.branch [
      | then-found-greatest w ↦
          let above : best <ℤ c.in_ok-found.found = rw found_is at (lt-true best (to_z w32 (of_z w32 c.in_ok-found.found)) w.if-found-greatest.true) in
          let kept = tried-more _ _ _ _ _ _ _ _ _ _ _ made above in
          record {
            spends = spends;
            root = rw (w.greatest-is ∙ found_is, w.best-is) kept.root;
            plays = rw (w.greatest-is ∙ found_is) kept.plays;
            left = left;
            in_time = in_time;
          }
      | else-found-greatest w ↦
          let under : c.in_ok-found.found ≤ℤ best = rw found_is at (lt-false best (to_z w32 (of_z w32 c.in_ok-found.found)) w.if-found-greatest.false) in
          let kept = tried-less _ _ _ _ _ _ _ _ _ _ _ made under in
          record {
            spends = spends;
            root = rw (w.greatest-is, w.best-is) kept.root;
            plays = rw w.greatest-is kept.plays;
            left = left;
            in_time = in_time;
          }
    ]

pub returns-in_err-found-clause-spends : goal.returns-in_err-found-clause-spends
returns-in_err-found-clause-spends g c =
    let at = moment g.G.Game.history g.G.Game.played g.C.Clock.readings g.C.Clock.last g.C.Clock.previous in
    let start = g.G.Game.history c.args.game.now in
    let p = position start in
    let d = c.args.depth in
    let turn = c.loop-i.invariant in
    let m = c.get-m.result in
    let best = to_z w32 c.loop-i.greatest-bits in
    let same = turn.spends.before.game in
    let alpha = root-alpha p d c.loop-i.i best c.loop-i.best c.requires.node.deep turn.root in
    let here : slice_get (moves p) c.loop-i.i ≡ Some m = here-in _ _ _ _ _ _ turn.spends.before.stack c.requires.node.listed c.get-m.ensures in
    let window : Window = record { alpha = to_z w32 (of_z w32 (best -ℤ pos 1)); beta = pos 1000100 } in
    let earlier = at c.loop-i.game c.loop-i.work c.loop-i.clock in
    let later = at c.worth_of.new.game c.worth_of.new.work c.worth_of.new.clock in
    let spent = rw c.again.ensures at c.worth_of.ensures.spends in
    let more = plays-of earlier later _ _ refl refl spent in
    let spent_here = spends-here (λ q. cond (is_some c.known_at.result) 0 (behind q (d - 1) m)) (λ q. 1 + cost (after q m) (d - 1) (neg_ℤ window.beta) (neg_ℤ window.alpha)) start earlier later same spent in
    let fewer = turn-left_of p d c.loop-i.i m c.args.begun.hint here in
    let paid = turn-paid _ _ _ _ _ fewer turn.left (known-nodes c.args.begun.hint c.loop-i.i c.args.begun.worth c.known_at.result (behind p (d - 1) m) c.known_at.ensures) in
    let stopped = turns-stop start (g.G.Game.history c.loop-i.game) d c.loop-i.i best m window _ _ _ same here alpha refl turn.plays more in
    spends-as _ _ _ _ _ _ (spends-then _ _ _ _ _ _ _ turn.spends spent_here) (omega (arith, paid)) (omega (arith, stopped))

pub returns-in_err-found-clause-answers : goal.returns-in_err-found-clause-answers
returns-in_err-found-clause-answers g c =
    let turn = c.loop-i.invariant in
    answers-no _ c.from_residual.result _ _ (search rules) (ended-then _ _ _ _ _ _ _ _ turn.spends.time.deadline turn.in_time (c.worth_of.ensures.answers.ended c.in_err-found.was))

pub returns-clause-spends : goal.returns-clause-spends
returns-clause-spends g c =
    let turn = c.loop-i.invariant in
    spends-as _ _ _ _ _ _ turn.spends (omega arith) (omega (arith, turns-end _ _ _ _ _ _ turn.plays))

pub returns-clause-answers : goal.returns-clause-answers
returns-clause-answers g c =
    let p = position (g.G.Game.history c.args.game.now) in
    let all : c.level_len-count.result ≡ length (moves p) = c.level_len-count.ensures ∙ ap length c.requires.node.listed in
    let past : length (moves p) ≤ c.loop-i.i = omega (arith, all, c.loop-i-test.false) in
    answers-some _ _ _ _
    (record { first = root-best _ _ _ _ _ c.requires.node.inner c.loop-i.invariant.root past; worth = root-end _ _ _ _ _ c.loop-i.invariant.root past })
    c.loop-i.invariant.in_time
