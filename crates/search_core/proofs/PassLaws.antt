-- Moves of a list that are passed over: those that were tried before their turn, and those that
-- cannot raise alpha.
use Rattle.std.proofs.Common.{◌≡◌, ℕ, ◌+◌, ◌-◌, ◌≤◌, Bool, true, false, refl, sym, subst, arith, drop, ◌∙◌, inl, inr, ℤ, ◌≤ℤ◌, ◌<ℤ◌, Option, Some, nat_eq}
use Rattle.std.specs.Prelude.{◌⊎◌, ◌||◌, slice_get}
use Rattle.std.specs.Option.{option_eq}
use Rattle.std.specs.Int.{int_max}
use Rattle.std.proofs.lemmas.Int.{ints, clamps}
use Rattle.hive_model.specs.declared.places.Move.{Move}
use Rattle.hive_model.specs.Positions.{Position}
use Rattle.hive_model.specs.Legal.{moves}
use Rattle.hive_model.specs.Minimax.{reply_value}
use Rattle.hive_model.specs.Costs.{tries_cost}
use Rattle.hive_model.specs.Histories.{History, position}
use Rattle.search_laws.specs.Tries.{tried_cost}
use Rattle.search_laws.specs.declared.window.Window.{Window}
use Rattle.search_laws.proofs.CostLaws.{tries-step}
use Rattle.search_laws.proofs.TurnLaws.{PlaysWithin}
use Rattle.search_core.specs.Times.{IsAtMost, AreAtMost}
use Rattle.search_core.specs.declared.play_credit.PlayCredit.{PlayCredit}
use Rattle.search_core.specs.Moments.{Moment, Spends}
use Rattle.search_core.proofs.Hints.{hint-is, hint-holds}
use Rattle.search_core.proofs.MomentLaws.{told_by}
use Rattle.search_core.proofs.TimeLaws.{left_of, turn-left, skip-left}

-- ---- places

or-true : (a b : Bool) → (a || b) ≡ true → (a ≡ true) ⊎ (b ≡ true)
or-true true b e = inl refl
or-true false b e = inr e

pub or-false : (a b c : Bool) → (a || b || c) ≡ false → a ≡ false
or-false true b c e = cc
or-false false b c e = refl

-- the move at a place that is known to be worth no more
place-low : (p : Position) (d i : ℕ) (m : Move) (most : ℤ) (place : Option ℕ) → IsAtMost p d most place → slice_get (moves p) i ≡ Some m
    → option_eq nat_eq place (Some i) ≡ true → reply_value p d m ≤ℤ most
place-low p d i m most place low here at = hint-holds _ place i (hint-is place i (sym at)) low m here

-- the move at one of three such places
pub held-low : (p : Position) (d i : ℕ) (m : Move) (most : ℤ) (a b c : Option ℕ) → IsAtMost p d most a → IsAtMost p d most b → IsAtMost p d most c → slice_get (moves p) i ≡ Some m
    → (option_eq nat_eq a (Some i) || option_eq nat_eq b (Some i) || option_eq nat_eq c (Some i)) ≡ true → reply_value p d m ≤ℤ most
held-low p d i m most a b c x y z here at = elim (or-true _ _ at) [
  | inl two ↦ elim (or-true _ _ two) [
    | inl one ↦ place-low p d i m most a x here one
    | inr one ↦ place-low p d i m most b y here one
  ]
  | inr one ↦ place-low p d i m most c z here one
]

-- ---- what is left

left-by : (p : Position) (d i : ℕ) (m : Move) (hint : Option ℕ) (at : Bool) → slice_get (moves p) i ≡ Some m → option_eq nat_eq hint (Some i) ≡ at → left_of p d hint (i + 1) ≤ left_of p d hint i
left-by p d i m hint true here e = omega (arith, skip-left p d i m hint here e)
left-by p d i m hint false here e = omega (arith, turn-left p d i m hint here e)

-- after a move the rest is no greater
pub left-falls : (p : Position) (d i : ℕ) (m : Move) (hint : Option ℕ) → slice_get (moves p) i ≡ Some m → left_of p d hint (i + 1) ≤ left_of p d hint i
left-falls p d i m hint here = left-by p d i m hint _ here refl

-- a move that is passed over costs at least one play
pub pass-plays : (p : Position) (d i : ℕ) (m : Move) (w : Window) (alpha : ℤ) (n0 n1 n2 : ℕ) → slice_get (moves p) i ≡ Some m → reply_value p (d - 1) m ≤ℤ alpha → alpha <ℤ w.beta → n2 ≤ n1 + 1
    → PlaysWithin p d w alpha i n0 n1 → PlaysWithin p d w alpha (i + 1) n0 n2
pass-plays p d i m w alpha n0 n1 n2 here less high one so =
    let under : reply_value p (d - 1) m <ℤ w.beta = omega (arith, ints) in
    let same : int_max alpha (reply_value p (d - 1) m) ≡ alpha = omega (arith, ints, clamps) in
    let step : tries_cost (tried_cost p (d - 1) w.beta) (reply_value p (d - 1)) alpha w.beta (drop i (moves p))
    ≡ tried_cost p (d - 1) w.beta m alpha + tries_cost (tried_cost p (d - 1) w.beta) (reply_value p (d - 1)) (int_max alpha (reply_value p (d - 1) m)) w.beta (drop (i + 1) (moves p)) =
    tries-step (tried_cost p (d - 1) w.beta) (reply_value p (d - 1)) alpha w.beta (moves p) i m here under in
    let k = rw same at step in
    omega (arith, so, k, one)

-- the moves that are passed over from the next place on
pub passed-on : (p : Position) (d : ℕ) (most : ℤ) (i j : ℕ) → AreAtMost p d most i j → AreAtMost p d most (i + 1) j
passed-on p d most i j low = λ k m from to here. low k m (omega (arith, from)) to here

-- ---- what is spent

-- a play is saved
pub spends-saved : (a b : Moment) (n k : ℕ) (credit : PlayCredit) → Spends n k a b → credit.early ≡ b.credit.early → credit.saved ≤ b.credit.saved + 1 → (b.credit.early ≡ true → credit.saved ≡ b.credit.saved)
    → Spends (n + 1) (k + 1) a (record b { credit = credit })
spends-saved a b n k credit x mode one early = record {
  before = x.before;
  often = x.often;
  time = record { deadline = x.time.deadline; later = x.time.later; seldom = omega (arith, x.time.seldom, one); never = x.time.never };
  played = omega (arith, x.played, one);
  paid = record {
    mode = mode ∙ x.paid.mode;
    plays = λ e. omega (arith, x.paid.plays e, early (x.paid.mode ∙ e));
    counts = λ e. omega (arith, x.paid.counts e, early (x.paid.mode ∙ e));
  };
}

-- the game is the same at the end, under another name
pub spends-to : (a b : Moment) (n k : ℕ) (history : History) (played : ℕ) → Spends n k a b → history ≡ b.history → played ≡ b.played → Spends n k a (told_by b history played)
spends-to a b n k history played x same count =
    subst (λ (q : ℕ). Spends n k a (told_by b history q)) (sym count) (subst (λ (q : History). Spends n k a (told_by b q b.played)) (sym same) x)

-- what is passed over in the same game
pub passed-here : (start now : History) (d : ℕ) (most : ℤ) (i j : ℕ) → now ≡ start → AreAtMost (position now) d most i j → AreAtMost (position start) d most i j
passed-here start now d most i j same low = subst (λ (h : History). AreAtMost (position h) d most i j) same low
