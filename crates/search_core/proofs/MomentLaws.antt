-- How what a search spends and answers adds up from moment to moment.
use Rattle.std.proofs.Common.{◌≡◌, ℕ, ◌+◌, ◌-◌, ◌≤◌, ◌^◌, min, neg_ℤ, refl, sym, subst, arith, Option, Some, None}
use Rattle.std.specs.Prelude.{if◌then◌else◌}
use Rattle.hive_model.specs.declared.places.Move.{Move}
use Rattle.hive_model.specs.Positions.{Position}
use Rattle.hive_model.specs.Games.{after}
use Rattle.hive_model.specs.Minimax.{nodes}
use Rattle.hive_model.specs.Costs.{cost}
use Rattle.hive_model.specs.Histories.{History, position, with_move, without_last}
use Rattle.hive_model.specs.Stack.{Levels, with_level, without_level}
use Rattle.search_laws.proofs.NodeLaws.{before-then}
use Rattle.search_laws.proofs.HistoryLaws.{level-dropped, move-undone}
use Rattle.search_laws.specs.declared.window.Window.{Window}
use Rattle.search_core.specs.Ticks.{Ticks, KeepsTime, IsInTime, CountsPlays}
use Rattle.search_core.specs.declared.play_credit.PlayCredit.{PlayCredit}
use Rattle.search_core.specs.Times.{HasEnded, counted, with_credit}
use Rattle.search_core.specs.Moments.{Moment, Spends, Answers}
use Rattle.search_core.proofs.CountLaws.{in_time-then, counts-none, counts-then, counts-here}
use Rattle.search_core.proofs.TimeLaws.{keeps-none, keeps-then, keeps-more, if-some, reply-time}
use Rattle.search_core.proofs.CreditLaws.{paid-then, paid-here, paid-play, paid-plays, saved-less, saved-time, ended-then}

-- ---- what is spent

pub spends-none : (a : Moment) → Spends 0 0 a a
spends-none a = record {
  before = record { game = refl; stack = refl };
  often = counts-none a.ticks a.readings a.played;
  time = keeps-none (with_credit a.ticks a.credit) a.readings a.last;
  played = omega arith;
  paid = record { mode = refl; plays = λ _. omega arith; counts = λ _. omega arith };
}

pub spends-then : (a b d : Moment) (n k m l : ℕ) → Spends n k a b → Spends m l b d → Spends (n + m) (k + l) a d
spends-then a b d n k m l x y = record {
  before = before-then _ _ _ _ _ _ x.before y.before;
  often = counts-then _ _ _ _ _ _ _ _ _ x.time.deadline x.often y.often;
  time = keeps-then _ _ _ _ _ _ _ _ _ _ _ x.time y.time;
  played = omega (arith, x.played, y.played);
  paid = paid-then _ _ _ _ _ _ _ _ _ x.paid y.paid;
}

-- no more nodes, and no more plays
pub spends-as : (a b : Moment) (n k m l : ℕ) → Spends n k a b → n ≤ m → b.played + b.credit.saved ≤ a.played + a.credit.saved + l → Spends m l a b
spends-as a b n k m l x fewer less = record {
  before = x.before;
  often = x.often;
  time = keeps-more _ _ _ _ _ _ _ _ fewer x.time;
  played = less;
  paid = x.paid;
}

pub spends-more : (a b : Moment) (n k m l : ℕ) → Spends n k a b → n ≤ m → k ≤ l → Spends m l a b
spends-more a b n k m l x fewer less = spends-as a b n k m l x fewer (omega (arith, x.played, less))

-- the same moment, with other names for the game's history and plays
abbrev pub told_by : Moment → History → ℕ → Moment
told_by a history played = record a { history = history; played = played }

pub spends-from : (f h : Position → ℕ) (a : Moment) (history : History) (played : ℕ) (b : Moment) → history ≡ a.history → played ≡ a.played
    → Spends (f (position history)) (h (position history)) (told_by a history played) b → Spends (f (position a.history)) (h (position a.history)) a b
spends-from f h a history played b same count x =
    subst (λ (q : ℕ). Spends (f (position a.history)) (h (position a.history)) (told_by a a.history q) b) count
    (subst (λ (q : History). Spends (f (position q)) (h (position q)) (told_by a q played) b) same x)

-- a fact about the game of a moment holds of an equal game
pub spends-here : (f h : Position → ℕ) (start : History) (a b : Moment) → a.history ≡ start → Spends (f (position a.history)) (h (position a.history)) a b
    → Spends (f (position start)) (h (position start)) a b
spends-here f h start a b same x = subst (λ (q : History). Spends (f (position q)) (h (position q)) a b) same x

-- a level was listed before, and dropped after
pub spends-level : (a : Moment) (listed dropped : Levels) (b : Moment) (ms : _) (n k : ℕ) → 1 ≤ a.levels.free → listed ≡ with_level a.levels ms → dropped ≡ without_level b.levels
    → Spends n k (record a { levels = listed }) b → Spends n k a (record b { levels = dropped })
spends-level a listed dropped b ms n k room put taken x = record {
  before = record { game = x.before.game; stack = level-dropped a.levels listed b.levels dropped ms room put x.before.stack taken };
  often = x.often;
  time = x.time;
  played = x.played;
  paid = x.paid;
}

-- a move is paid for and played, its play is counted, and it is taken back after a search of its
-- replies
pub record Plays (a : Moment) (m : Move) (played : History) (n : ℕ) (credit : PlayCredit) (ticks : Ticks) (readings last : ℕ) : Type 0 where
  pub moved : played ≡ with_move a.history m
  pub count : n ≡ min (a.played + 1) (2 ^ 64 - 1)
  pub mode : credit.early ≡ a.credit.early
  pub paid : credit.saved + (if a.credit.early then 1 else 0) ≡ a.credit.saved
  pub time : KeepsTime a.ticks ticks a.readings readings a.last last 1
  pub often : CountsPlays a.ticks ticks a.readings readings a.played n

pub spends-play : (a : Moment) (m : Move) (d : ℕ) (w turned : Window) (played : History) (n : ℕ) (credit : PlayCredit) (ticks : Ticks) (readings last previous : ℕ) (b : Moment) (back : History) (n3 : ℕ)
    → 1 ≤ a.history.spare → Plays a m played n credit ticks readings last → turned.alpha ≡ neg_ℤ w.beta → turned.beta ≡ neg_ℤ w.alpha
    → Spends (nodes (position played) d) (cost (position played) d turned.alpha turned.beta)
    (record { history = played; played = n; levels = a.levels; ticks = ticks; credit = credit; readings = readings; last = last; previous = previous }) b
    → back ≡ without_last b.history → n3 ≡ b.played
    → Spends (1 + nodes (after (position a.history) m) d) (1 + cost (after (position a.history) m) d (neg_ℤ w.beta) (neg_ℤ w.alpha)) a (told_by b back n3)
spends-play a m d w turned played n credit ticks readings last previous b back n3 room made ea eb x taken same = record {
  before = record { game = move-undone a.history played b.history back m room made.moved x.before.game taken; stack = x.before.stack };
  often = counts-here a.ticks b.ticks a.readings b.readings a.played a.played b.played n3 refl same
      (counts-then a.ticks ticks b.ticks a.readings readings b.readings a.played n b.played made.time.deadline made.often x.often);
  time = reply-time a.history played m d (with_credit a.ticks a.credit) (with_credit ticks credit) (with_credit b.ticks b.credit) a.readings readings b.readings a.last last b.last made.moved
      (saved-time a.ticks ticks a.credit credit a.readings readings a.last last 1 (saved-less a.credit credit made.paid) made.time) x.time;
  played = paid-plays a.history played m d w turned a.credit credit b.credit a.played n b.played n3 made.moved ea eb made.count made.paid x.played same;
  paid = paid-here a.credit b.credit a.played a.played b.played n3 (counted a.ticks a.readings) (counted b.ticks b.readings) refl same
      (paid-then a.credit credit b.credit a.played n b.played (counted a.ticks a.readings) (counted ticks readings) (counted b.ticks b.readings)
      (paid-play a.credit credit a.ticks ticks a.readings readings a.last last a.played n made.mode made.paid made.count made.time) x.paid);
}

-- ---- what is answered

pub answers-some : {X : Type 0} (Is : X → Type 0) (x : X) (a b : Moment) → Is x → IsInTime a.ticks a.last b.last → Answers Is (Some x) a b
answers-some Is x a b is time = record { found = is; in_time = time; ended = λ e. cc }

pub answers-none : {X : Type 0} (Is : X → Type 0) (a b : Moment) → HasEnded b.credit a.ticks b.ticks a.last b.last b.previous → Answers Is None a b
answers-none Is a b ended = record { found = tt; in_time = tt; ended = λ e. ended }

pub answers-no : {X : Type 0} (Is : X → Type 0) (o : Option X) (a b : Moment) → o ≡ None → HasEnded b.credit a.ticks b.ticks a.last b.last b.previous → Answers Is o a b
answers-no Is o a b none ended = subst (λ q. Answers Is q a b) (sym none) (answers-none Is a b ended)

-- an answer to the rest, after what was done in time
pub answers-then : {X : Type 0} (Is All : X → Type 0) (o : Option X) (a b d : Moment) → b.ticks.deadline ≡ a.ticks.deadline → IsInTime a.ticks a.last b.last
    → ((x : X) → Is x → All x) → Answers Is o b d → Answers All o a d
answers-then Is All o a b d same time so x = record {
  found = if-some Is All o so x.found;
  in_time = if-some _ _ o (λ _ h. in_time-then a.ticks b.ticks a.last b.last d.last same time h) x.in_time;
  ended = λ none. ended-then d.credit a.ticks b.ticks d.ticks a.last b.last d.last d.previous same time (x.ended none);
}
