-- What is saved, and what it pays for.
use Rattle.std.proofs.Common.{◌≡◌, ℕ, ◌+◌, ◌-◌, ◌^◌, ◌≤◌, min, true, Bool, sym, ap, subst, arith, ◌∙◌, ℤ, neg_ℤ, ◌<ℤ◌, ◌≤ℤ◌, Option, Some, None}
use Rattle.std.specs.Prelude.{if◌then◌else◌, IfSome, slice_get}
use Rattle.std.specs.Int.{int_max}
use Rattle.std.proofs.lemmas.Int.{ints, clamps, by_lt_z}
use Rattle.std.proofs.lemmas.Option.{same_Some}
use Rattle.hive_model.specs.declared.places.Move.{Move}
use Rattle.hive_model.specs.Positions.{Position}
use Rattle.hive_model.specs.Legal.{moves}
use Rattle.hive_model.specs.Games.{after}
use Rattle.hive_model.specs.Minimax.{IsInner, value, reply_value}
use Rattle.hive_model.specs.Costs.{cost, tries_cost}
use Rattle.hive_model.specs.Histories.{History, position, with_move}
use Rattle.search_laws.specs.Tries.{tried_cost}
use Rattle.search_laws.specs.declared.window.Window.{Window}
use Rattle.search_laws.specs.Found.{IsFound, IsOpen}
use Rattle.search_laws.proofs.FoundLaws.{found-cut}
use Rattle.search_laws.proofs.HistoryLaws.{position-with_move}
use Rattle.search_laws.proofs.CostLaws.{tries-falls}
use Rattle.search_laws.proofs.HintLaws.{tried-falls, reply-low}
use Rattle.search_core.specs.Ticks.{Ticks, KeepsTime, HasStopped, IsInTime, has_come}
use Rattle.search_core.proofs.CountLaws.{in_time-then}
use Rattle.search_core.specs.declared.play_credit.PlayCredit.{PlayCredit}
use Rattle.search_core.specs.Times.{IsPaid, HasEnded, with_credit, counted, IsAtMost, IsTriedEarly}

-- ---- each play is paid for

pub paid-then : (a b d : PlayCredit) (n0 n1 n2 c0 c1 c2 : ℕ) → IsPaid a b n0 n1 c0 c1 → IsPaid b d n1 n2 c1 c2 → IsPaid a d n0 n2 c0 c2
paid-then a b d n0 n1 n2 c0 c1 c2 x y = record {
  mode = y.mode ∙ x.mode;
  plays = λ e. omega (arith, x.plays e, y.plays (x.mode ∙ e));
  counts = λ e. omega (arith, x.counts e, y.counts (x.mode ∙ e));
}

-- nothing was played before, or after
pub paid-here : (a b : PlayCredit) (n0 n1 n2 n3 c0 c1 : ℕ) → n1 ≡ n0 → n3 ≡ n2 → IsPaid a b n1 n2 c0 c1 → IsPaid a b n0 n3 c0 c1
paid-here a b n0 n1 n2 n3 c0 c1 before after x = record {
  mode = x.mode;
  plays = λ e. omega (arith, x.plays e, before, after);
  counts = λ e. omega (arith, x.counts e);
}

abbrev one_if : Bool → ℕ
one_if t = if t then 1 else 0

cond-on : (t : Bool) → t ≡ true → one_if t ≡ 1
cond-on t e = ap one_if e

-- a play within an early try
pub paid-play : (a b : PlayCredit) (t u : Ticks) (r0 r1 l0 l1 n0 n1 : ℕ) → b.early ≡ a.early → b.saved + (if a.early then 1 else 0) ≡ a.saved
    → n1 ≡ min (n0 + 1) (2 ^ 64 - 1) → KeepsTime t u r0 r1 l0 l1 1 → IsPaid a b n0 n1 (counted t r0) (counted u r1)
paid-play a b t u r0 r1 l0 l1 n0 n1 mode paid played time = record {
  mode = mode;
  plays = λ e. omega (arith, paid, cond-on a.early e, played);
  counts = λ e. omega (arith, paid, cond-on a.early e, time.seldom);
}

pub saved-less : (a b : PlayCredit) → b.saved + (if a.early then 1 else 0) ≡ a.saved → b.saved ≤ a.saved
saved-less a b e = omega (arith, e)

pub paid-plays : (start played : History) (m : Move) (d : ℕ) (w behind : Window) (a b e : PlayCredit) (n0 n1 n2 n3 : ℕ) → played ≡ with_move start m →
    behind.alpha ≡ neg_ℤ w.beta → behind.beta ≡ neg_ℤ w.alpha → n1 ≡ min (n0 + 1) (2 ^ 64 - 1) → b.saved + (if a.early then 1 else 0) ≡ a.saved →
    n2 + e.saved ≤ n1 + b.saved + cost (position played) d behind.alpha behind.beta → n3 ≡ n2 →
    n3 + e.saved ≤ n0 + a.saved + (1 + cost (after (position start) m) d (neg_ℤ w.beta) (neg_ℤ w.alpha))
paid-plays start played m d w behind a b e n0 n1 n2 n3 moved ea eb one paid more same =
    let at : position played ≡ after (position start) m = ap position moved ∙ position-with_move start m in
    let k : n2 + e.saved ≤ n1 + b.saved + cost (after (position start) m) d (neg_ℤ w.beta) (neg_ℤ w.alpha) = rw (at, ea, eb) at more in
    omega (arith, k, one, same, saved-less a b paid)

-- ---- the time

pub saved-time : (t u : Ticks) (a b : PlayCredit) (r0 r1 l0 l1 n : ℕ) → b.saved ≤ a.saved → KeepsTime t u r0 r1 l0 l1 n → KeepsTime (with_credit t a) (with_credit u b) r0 r1 l0 l1 n
saved-time t u a b r0 r1 l0 l1 n less k = record { deadline = k.deadline; later = k.later; seldom = omega (arith, k.seldom, less); never = k.never }

-- ---- how a search ends

-- a search that stopped after the time was kept so far
pub stopped-then : (t u v : Ticks) (l0 l1 l2 b2 : ℕ) → u.deadline ≡ t.deadline → IsInTime t l0 l1 → HasStopped u v l1 l2 b2 → HasStopped t v l0 l2 b2
stopped-then t u v l0 l1 l2 b2 same x s = record {
  come = ap (λ d. has_come d l2) (sym same) ∙ s.come;
  latest = s.latest;
  before = in_time-then t u l0 l1 b2 same x s.before;
}

pub ended-then : (a : PlayCredit) (t u v : Ticks) (l0 l1 l2 b2 : ℕ) → u.deadline ≡ t.deadline → IsInTime t l0 l1 → HasEnded a u v l1 l2 b2 → HasEnded a t v l0 l2 b2
ended-then a t u v l0 l1 l2 b2 same x y = record {
  stopped = λ e. stopped-then t u v l0 l1 l2 b2 same x (y.stopped e);
  spent = λ e. in_time-then t u l0 l1 l2 same x (y.spent e);
}

-- ---- early tries

pub rest-falls : (p : Position) (d : ℕ) (w rest : Window) (n1 n2 : ℕ) → rest.beta ≡ w.beta → w.alpha ≤ℤ rest.alpha
    → n2 ≤ n1 + tries_cost (tried_cost p (d - 1) rest.beta) (reply_value p (d - 1)) rest.alpha rest.beta (moves p)
    → n2 ≤ n1 + tries_cost (tried_cost p (d - 1) w.beta) (reply_value p (d - 1)) w.alpha w.beta (moves p)
rest-falls p d w rest n1 n2 eb low more =
    let k = rw eb at more in
    let fewer : tries_cost (tried_cost p (d - 1) w.beta) (reply_value p (d - 1)) rest.alpha w.beta (moves p) ≤ tries_cost (tried_cost p (d - 1) w.beta) (reply_value p (d - 1)) w.alpha w.beta (moves p) =
    tries-falls (tried_cost p (d - 1) w.beta) (tried_cost p (d - 1) w.beta) (reply_value p (d - 1)) w.alpha rest.alpha w.beta w.beta (moves p) (tried-falls p (d - 1) w.beta) low (omega (arith, ints)) in
    omega (arith, k, fewer)

pub at_most-more : (p : Position) (d : ℕ) (a b : ℤ) (place : Option ℕ) → a ≤ℤ b → IsAtMost p d a place → IsAtMost p d b place
at_most-more p d a b None h x = tt
at_most-more p d a b (Some i) h x = λ m here. let low = x m here in omega (arith, ints, low, h)

early-low : (p : Position) (d i : ℕ) (m : Move) (w : Window) (answer : ℤ) (place : Option ℕ) → answer <ℤ w.beta → slice_get (moves p) i ≡ Some m → IfSome place (λ j. j ≡ i)
    → IsFound (reply_value p (d - 1) m) w answer → IsAtMost p (d - 1) answer place
early-low p d i m w answer None under here at found = tt
early-low p d i m w answer (Some j) under here at found = λ n there.
    let is : m ≡ n = same_Some m n (sym here ∙ ap (slice_get (moves p)) (sym at) ∙ there) in
    by_lt_z w.alpha answer
    (λ above. let e : answer ≡ reply_value p (d - 1) m = found.exact above under in omega (arith, ints, e, ap (reply_value p (d - 1)) is))
    (λ not. let e : reply_value p (d - 1) m ≤ℤ answer = found.upper not in omega (arith, ints, e, ap (reply_value p (d - 1)) is))

-- what an early try found
pub early-answer : (p : Position) (d i : ℕ) (m : Move) (w : Window) (answer : ℤ) (place : Option ℕ) → IsInner p d → w.alpha <ℤ w.beta → slice_get (moves p) i ≡ Some m → IfSome place (λ j. j ≡ i)
    → IsFound (reply_value p (d - 1) m) w answer → IsTriedEarly p d w answer place
early-answer p d i m w answer place inner wide here at found = record {
  raised = λ above. by_lt_z answer w.beta
      (λ under. let e : answer ≡ reply_value p (d - 1) m = found.exact above under in let most = reply-low p d i m inner here in omega (arith, ints, e, most))
      (λ not. let low : answer ≤ℤ reply_value p (d - 1) m = found.lower not in let most = reply-low p d i m inner here in omega (arith, ints, low, most));
  low = λ under. early-low p d i m w answer place under here at found;
}

-- an early try that reaches the upper end
pub early-cut : (p : Position) (d : ℕ) (w : Window) (answer : ℤ) (place : Option ℕ) → w.alpha <ℤ w.beta → w.beta ≤ℤ answer → IsTriedEarly p d w answer place → IsFound (value p d) w answer
early-cut p d w answer place wide cut tried =
    let low = tried.raised (omega (arith, ints, wide, cut)) in
    found-cut (value p d) w answer wide cut low

pub tried-here : (start now : History) (d : ℕ) (w : Window) (answer : ℤ) (place : Option ℕ) → now ≡ start → IsTriedEarly (position now) d w answer place → IsTriedEarly (position start) d w answer place
tried-here start now d w answer place same x = subst (λ (h : History). IsTriedEarly (position h) d w answer place) same x

pub at_most-here : (start now : History) (d : ℕ) (most : ℤ) (place : Option ℕ) → now ≡ start → IsAtMost (position start) d most place → IsAtMost (position now) d most place
at_most-here start now d most place same x = subst (λ (h : History). IsAtMost (position h) d most place) (sym same) x

-- a window's lower end is raised to no more than what the position is worth
pub record Lifted (v : ℤ) (w rest : Window) : Type 0 where
  pub beta : rest.beta ≡ w.beta
  pub up : w.alpha ≤ℤ rest.alpha
  pub low : w.alpha <ℤ rest.alpha → rest.alpha ≤ℤ v
  pub high : rest.alpha <ℤ w.beta

pub lifted : (p : Position) (d : ℕ) (w rest : Window) (answer : ℤ) (place : Option ℕ) → rest.beta ≡ w.beta → rest.alpha ≡ int_max w.alpha answer → answer <ℤ w.beta → w.alpha <ℤ w.beta
    → IsTriedEarly p d w answer place → Lifted (value p d) w rest
lifted p d w rest answer place eb ea under wide tried = record {
  beta = eb;
  up = omega (arith, ints, clamps, ea);
  low = λ above.
      let over : w.alpha <ℤ answer = omega (arith, ints, clamps, ea, above) in
      let most = tried.raised over in
      omega (arith, ints, clamps, ea, most, over);
  high = omega (arith, ints, clamps, ea, under, wide);
}

pub lifted-then : (v : ℤ) (a b c : Window) → Lifted v a b → Lifted v b c → Lifted v a c
lifted-then v a b c x y = record {
  beta = y.beta ∙ x.beta;
  up = (let one = x.up in let two = y.up in omega (arith, ints, one, two));
  low = λ above. by_lt_z b.alpha c.alpha (λ h. y.low h)
      (λ not. let two = y.up in let one = x.low (omega (arith, ints, above, not, two)) in omega (arith, ints, one, not));
  high = (let one = y.high in let two = x.beta in omega (arith, ints, one, two));
}

pub lifted-open : (v : ℤ) (w rest : Window) → IsOpen w → Lifted v w rest → IsOpen rest
lifted-open v w rest open_ x =
    let up = x.up in let high = x.high in let beta = x.beta in let alpha = open_.alpha in let top = open_.beta in
    record { open_ = omega (arith, ints, high, beta); alpha = omega (arith, ints, up, alpha); beta = omega (arith, ints, beta, top) }

pub lifted-found : (v : ℤ) (w rest : Window) (r : ℤ) → w.alpha <ℤ w.beta → Lifted v w rest → IsFound v rest r → IsFound v w r
lifted-found v w rest r wide x f =
    let beta = x.beta in let up = x.up in let high = x.high in
    record {
      exact = λ a b. by_lt_z rest.alpha r
          (λ above. f.exact above (omega (arith, ints, beta, b)))
          (λ not. let k : v ≤ℤ r = f.upper not in let l : rest.alpha ≤ℤ v = x.low (omega (arith, ints, a, not)) in omega (arith, ints, k, l, not));
      upper = λ a. f.upper (omega (arith, ints, up, a));
      lower = λ b. f.lower (omega (arith, ints, beta, b));
    }

pub max-right : (a b r : ℤ) → r ≡ int_max a b → b ≤ℤ r
max-right a b r e = omega (arith, ints, clamps)
