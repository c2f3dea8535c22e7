-- A move that is played, and the search after it.
use Rattle.std.proofs.Common.{rules, ◌≡◌, ◌+◌, ◌≤◌, pos, neg_ℤ, ℕ, ℤ, ◌-ℤ◌, to_z, of_z, refl, arith}
use mir.Syntax.{w32}
use Rattle.std.proofs.lemmas.Int.{ints}
use Rattle.hive_model.specs.Minimax.{value}
use Rattle.search_laws.proofs.MinimaxLaws.{value-within}
use Rattle.search_laws.specs.Laws.{IsSmall}
use Rattle.search_laws.proofs.Signs.{neg-fits, neg-is}
use Rattle.search_laws.specs.Found.{IsFound, IsOpen}
use Rattle.search_laws.proofs.NodeLaws.{reply-room}
use Rattle.search_laws.specs.declared.window.Window.{Window}
use Rattle.search_laws.proofs.FoundLaws.{found-within}
use Rattle.search_laws.proofs.TurnLaws.{reply-found}
use Rattle.std.specs.Prelude.{if◌then◌else◌}
use Rattle.search_core.proofs.CountLaws.{in_time-then, in_time-tick, counts-tick}
use Rattle.search_core.proofs.CreditLaws.{ended-then}
use Rattle.search_core.specs.Moments.{moment_within}
use Rattle.search_core.proofs.MomentLaws.{Plays, spends-none, spends-more, spends-play, answers-some, answers-none}
use Rattle.search_core.proofs.+search.Goals as goal

answer-within : (p : _) (d : ℕ) (w : Window) (r : ℤ) → d ≤ 64 → IsOpen w → IsFound (value p d) w r → IsSmall 1000100 r
answer-within p d w r deep wide f = found-within (1000000 + d) (value p d) w r (value-within p d) (omega arith) wide.alpha wide.beta wide.open_ f

-- the window of the other side, as the code computes it
abbrev turned-window : Window → Window
turned-window w = record { alpha = to_z w32 (of_z w32 (pos 0 -ℤ to_z w32 (of_z w32 w.beta))); beta = to_z w32 (of_z w32 (pos 0 -ℤ to_z w32 (of_z w32 w.alpha))) }

turned-beta : (w : Window) → IsOpen w → (turned-window w).alpha ≡ neg_ℤ w.beta
turned-beta w o = omega (arith, ints, o.open_, o.alpha, o.beta)

turned-alpha : (w : Window) → IsOpen w → (turned-window w).beta ≡ neg_ℤ w.alpha
turned-alpha w o = omega (arith, ints, o.open_, o.alpha, o.beta)

turned-open : (w : Window) → IsOpen w → IsOpen (turned-window w)
turned-open w o = record {
  open_ = omega (arith, ints, turned-beta w o, turned-alpha w o, o.open_);
  alpha = omega (arith, ints, turned-beta w o, o.beta);
  beta = omega (arith, ints, turned-alpha w o, o.alpha);
}

pub replies::play_reply-returns-then-tick-clause-spends : goal.replies::play_reply-returns-then-tick-clause-spends
replies::play_reply-returns-then-tick-clause-spends g t c =
    let at = moment_within g.G.Game.history g.G.Game.played g.C.Clock.readings g.C.Clock.last g.C.Clock.previous in
    let start = at c.args.game.now c.args.work.now c.args.clock.now in
    let paid : c.pay.new.self.saved + (if start.credit.early then 1 else 0) ≡ start.credit.saved = c.if-not-pay.ensures.paid refl in
    let made : Plays start c.args.m (g.G.Game.history c.play.new.self) (g.G.Game.played c.play.new.self) c.pay.new.self c.tick.new.self (g.C.Clock.readings c.tick.new.clock) (g.C.Clock.last c.tick.new.clock) = record {
      moved = c.play.ensures.moved;
      count = c.play.ensures.count;
      mode = c.pay.ensures.mode;
      paid = paid;
      time = c.tick.ensures.time;
      often = counts-tick _ _ _ _ _ _ _ _ _ _ c.play.ensures.count refl c.tick.ensures.counted c.tick.ensures.read c.tick.ensures.unread;
    } in
    let w = c.requires.window in
    spends-play start c.args.m c.args.node.depth c.args.node.window (turned-window c.args.node.window) _ _ _ _ _ _ _ _ _ _ (omega (arith, c.requires.can.spare)) made (turned-beta _ w) (turned-alpha _ w) (spends-more _ _ 0 0 _ _ (spends-none _) (omega arith) (omega arith)) c.undo.ensures.back c.undo.ensures.count

pub replies::play_reply-search_with-found-requires : goal.replies::play_reply-search_with-found-requires
replies::play_reply-search_with-found-requires g t c κs within = (
  search rules,
  (
    within.0,
    (
      within.1,
      record { window = turned-open _ c.requires.window; room = reply-room _ _ _ c.args.m _ c.requires.can c.play.ensures.moved },
    ),
  ),
)

pub replies::play_reply-overflow_sub-result : goal.replies::play_reply-overflow_sub-result
replies::play_reply-overflow_sub-result g t c =
    neg-fits _ (answer-within _ _ _ _ (omega (arith, c.requires.can.deep)) (turned-open _ c.requires.window) c.in-Some.ensures.answers.found)

pub replies::play_reply-returns-in-Some-clause-spends : goal.replies::play_reply-returns-in-Some-clause-spends
replies::play_reply-returns-in-Some-clause-spends g t c =
    let at = moment_within g.G.Game.history g.G.Game.played g.C.Clock.readings g.C.Clock.last g.C.Clock.previous in
    let start = at c.args.game.now c.args.work.now c.args.clock.now in
    let paid : c.pay.new.self.saved + (if start.credit.early then 1 else 0) ≡ start.credit.saved = c.if-not-pay.ensures.paid refl in
    let made : Plays start c.args.m (g.G.Game.history c.play.new.self) (g.G.Game.played c.play.new.self) c.pay.new.self c.tick.new.self (g.C.Clock.readings c.tick.new.clock) (g.C.Clock.last c.tick.new.clock) = record {
      moved = c.play.ensures.moved;
      count = c.play.ensures.count;
      mode = c.pay.ensures.mode;
      paid = paid;
      time = c.tick.ensures.time;
      often = counts-tick _ _ _ _ _ _ _ _ _ _ c.play.ensures.count refl c.tick.ensures.counted c.tick.ensures.read c.tick.ensures.unread;
    } in
    let w = c.requires.window in
    spends-play start c.args.m c.args.node.depth c.args.node.window (turned-window c.args.node.window) _ _ _ _ _ _ _ _ _ _ (omega (arith, c.requires.can.spare)) made (turned-beta _ w) (turned-alpha _ w) c.search_with-found.ensures.spends c.undo-2.ensures.back c.undo-2.ensures.count

pub replies::play_reply-returns-in-None-clause-spends : goal.replies::play_reply-returns-in-None-clause-spends
replies::play_reply-returns-in-None-clause-spends g t c =
    let at = moment_within g.G.Game.history g.G.Game.played g.C.Clock.readings g.C.Clock.last g.C.Clock.previous in
    let start = at c.args.game.now c.args.work.now c.args.clock.now in
    let paid : c.pay.new.self.saved + (if start.credit.early then 1 else 0) ≡ start.credit.saved = c.if-not-pay.ensures.paid refl in
    let made : Plays start c.args.m (g.G.Game.history c.play.new.self) (g.G.Game.played c.play.new.self) c.pay.new.self c.tick.new.self (g.C.Clock.readings c.tick.new.clock) (g.C.Clock.last c.tick.new.clock) = record {
      moved = c.play.ensures.moved;
      count = c.play.ensures.count;
      mode = c.pay.ensures.mode;
      paid = paid;
      time = c.tick.ensures.time;
      often = counts-tick _ _ _ _ _ _ _ _ _ _ c.play.ensures.count refl c.tick.ensures.counted c.tick.ensures.read c.tick.ensures.unread;
    } in
    let w = c.requires.window in
    spends-play start c.args.m c.args.node.depth c.args.node.window (turned-window c.args.node.window) _ _ _ _ _ _ _ _ _ _ (omega (arith, c.requires.can.spare)) made (turned-beta _ w) (turned-alpha _ w) c.search_with-found.ensures.spends c.undo-2.ensures.back c.undo-2.ensures.count

pub replies::play_reply-returns-in-Some-clause-answers : goal.replies::play_reply-returns-in-Some-clause-answers
replies::play_reply-returns-in-Some-clause-answers g t c =
    let w = c.requires.window in
    let small : IsSmall 1000100 c.in-Some.value = answer-within _ _ _ _ (omega (arith, c.requires.can.deep)) (turned-open _ w) c.in-Some.ensures.answers.found in
    answers-some _ _ _ _ (reply-found _ _ _ _ _ _ _ _ c.play.ensures.moved (turned-beta _ w) (turned-alpha _ w) (neg-is _ small) c.in-Some.ensures.answers.found)
    (in_time-then _ _ _ _ _ c.tick.ensures.time.deadline
    (in_time-tick _ _ _ c.tick.result _ (search rules) refl (λ e. (c.tick.ensures.read e).2) (λ e. (c.tick.ensures.unread e).1)) c.in-Some.ensures.answers.in_time)

pub replies::play_reply-returns-in-None-clause-answers : goal.replies::play_reply-returns-in-None-clause-answers
replies::play_reply-returns-in-None-clause-answers g t c =
    answers-none _ _ _ (ended-then _ _ _ _ _ _ _ _ c.tick.ensures.time.deadline
    (in_time-tick _ _ _ c.tick.result _ (search rules) refl (λ e. (c.tick.ensures.read e).2) (λ e. (c.tick.ensures.unread e).1)) (c.search_with-found.ensures.answers.ended c.in-None.is))
