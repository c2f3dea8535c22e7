-- One turn of the search's loop over the moves, and its end, over plain values.
use Rattle.std.proofs.Common.{◌≡◌, ℕ, ◌+◌, ◌-◌, ◌^◌, ◌≤◌, min, length, drop, map, sym, ap, subst, arith, ◌∙◌, ℤ, neg_ℤ, ◌≤ℤ◌, ◌<ℤ◌, Some}
use Rattle.std.proofs.lemmas.Int.{ints}
use Rattle.std.specs.List.{slice_get}
use Rattle.hive_model.specs.Lists.{IsOn}
use Rattle.hive_model.specs.Stack.{Levels, level_of, with_level}
use Rattle.std.specs.Int.{int_max}
use Rattle.hive_model.specs.declared.places.Move.{Move}
use Rattle.hive_model.specs.Positions.{Position}
use Rattle.hive_model.specs.Legal.{moves}
use Rattle.hive_model.specs.Games.{after}
use Rattle.hive_model.specs.Minimax.{IsInner, value, reply_value, greatest_from, greatest}
use Rattle.hive_model.specs.Costs.{tries_cost, cost}
use Rattle.hive_model.specs.Histories.{History, position, with_move}
use Rattle.search_laws.proofs.HistoryLaws.{position-with_move}
use Rattle.search_laws.proofs.LoopLaws.{greatest-step, greatest-end, listed-at, on-at, count-of-level}
use Rattle.search_laws.proofs.Greatest.{greatest-each, greatest_from-greatest}
use Rattle.search_laws.proofs.MinimaxLaws.{value-greatest, moves-not_over}
use Rattle.search_laws.specs.Tries.{tried_cost}
use Rattle.search_laws.proofs.CostLaws.{tries-step}
use Rattle.search_laws.specs.declared.window.Window.{Window}
use Rattle.search_laws.specs.Found.{IsFound}
use Rattle.search_laws.proofs.FoundLaws.{IsFound-neg, found-below, found-raises, found-cut, found-raised}

-- ---- one move played, searched and undone

pub reply-found : (start played : History) (m : Move) (d : ℕ) (w behind : Window) (r s : ℤ) → played ≡ with_move start m →
    behind.alpha ≡ neg_ℤ w.beta → behind.beta ≡ neg_ℤ w.alpha → s ≡ neg_ℤ r →
    IsFound (value (position played) d) behind r → IsFound (reply_value (position start) d m) w s
reply-found start played m d w behind r s moved ea eb es f =
    let e : position played ≡ after (position start) m = ap position moved ∙ position-with_move start m in
    IsFound-neg (value (after (position start) m) d) w behind r s ea eb es (subst (λ (p : Position). IsFound (value p d) behind r) e f)

pub reply-plays : (start played : History) (m : Move) (d : ℕ) (w behind : Window) (n0 n1 n2 n3 : ℕ) → played ≡ with_move start m →
    behind.alpha ≡ neg_ℤ w.beta → behind.beta ≡ neg_ℤ w.alpha → n1 ≡ min (n0 + 1) (2 ^ 64 - 1) →
    n2 ≤ n1 + cost (position played) d behind.alpha behind.beta → n3 ≡ n2 →
    n3 ≤ n0 + (1 + cost (after (position start) m) d (neg_ℤ w.beta) (neg_ℤ w.alpha))
reply-plays start played m d w behind n0 n1 n2 n3 moved ea eb one more same =
    let e : position played ≡ after (position start) m = ap position moved ∙ position-with_move start m in
    let k : n2 ≤ n1 + cost (after (position start) m) d (neg_ℤ w.beta) (neg_ℤ w.alpha) = rw (e, ea, eb) at more in
    omega (arith, k, one, same)

-- ---- a turn of the loop

pub record LoopTurn (p : Position) (d : ℕ) (w inner : Window) (i : ℕ) (m : Move) (r : ℤ) : Type 0 where
  pub open_ : IsInner p d
  pub here : slice_get (moves p) i ≡ Some m
  pub beta : inner.beta ≡ w.beta
  pub low : w.alpha ≤ℤ inner.alpha
  pub high : inner.alpha <ℤ w.beta
  pub found : IsFound (reply_value p (d - 1) m) inner r

pub cut-found : (p : Position) (d : ℕ) (w inner : Window) (i : ℕ) (m : Move) (r : ℤ) → LoopTurn p d w inner i m r → w.beta ≤ℤ r → IsFound (value p d) w r
cut-found p d w inner i m r t cut =
    let low : r ≤ℤ reply_value p (d - 1) m = t.found.lower (rw t.beta cut) in
    let each : reply_value p (d - 1) m ≤ℤ greatest (map (reply_value p (d - 1)) (moves p)) = greatest-each (reply_value p (d - 1)) (moves p) i m t.here in
    let top : value p d ≡ greatest (map (reply_value p (d - 1)) (moves p)) = value-greatest p d t.open_ in
    found-cut (value p d) w r (omega (arith, ints, t.low, t.high)) cut (omega (arith, ints, low, each, top))

-- the plays so far and those that are left
abbrev pub PlaysWithin : Position → ℕ → Window → ℤ → ℕ → ℕ → ℕ → Type 0
PlaysWithin p d w alpha i before now =
    now + tries_cost (tried_cost p (d - 1) w.beta) (reply_value p (d - 1)) alpha w.beta (drop i (moves p))
    ≤ before + tries_cost (tried_cost p (d - 1) w.beta) (reply_value p (d - 1)) w.alpha w.beta (moves p)

-- the answer did not reach beta: alpha is raised to the value of the move
pub turn-rest : (p : Position) (d : ℕ) (w inner : Window) (i : ℕ) (m : Move) (r alpha top : ℤ) → LoopTurn p d w inner i m r → r <ℤ w.beta →
    alpha ≡ int_max inner.alpha r → greatest_from inner.alpha (map (reply_value p (d - 1)) (drop i (moves p))) ≡ top →
    greatest_from alpha (map (reply_value p (d - 1)) (drop (i + 1) (moves p))) ≡ top
turn-rest p d w inner i m r alpha top t below e so =
    greatest-step (reply_value p (d - 1)) (moves p) i m inner.alpha alpha top so t.here
    (e ∙ found-raises (reply_value p (d - 1) m) inner r (rw t.beta below) t.found)

pub turn-plays : (p : Position) (d : ℕ) (w inner : Window) (i : ℕ) (m : Move) (r alpha : ℤ) (n0 n1 n2 : ℕ) → LoopTurn p d w inner i m r → r <ℤ w.beta →
    alpha ≡ int_max inner.alpha r → PlaysWithin p d w inner.alpha i n0 n1 →
    n2 ≤ n1 + (1 + cost (after p m) (d - 1) (neg_ℤ inner.beta) (neg_ℤ inner.alpha)) → PlaysWithin p d w alpha (i + 1) n0 n2
turn-plays p d w inner i m r alpha n0 n1 n2 t below e so more =
    let k : n2 ≤ n1 + (1 + cost (after p m) (d - 1) (neg_ℤ w.beta) (neg_ℤ inner.alpha)) = rw t.beta at more in
    let up : alpha ≡ int_max inner.alpha (reply_value p (d - 1) m) = e ∙ found-raises (reply_value p (d - 1) m) inner r (rw t.beta below) t.found in
    let under : reply_value p (d - 1) m <ℤ w.beta =
    rw t.beta at (found-below (reply_value p (d - 1) m) inner r (rw t.beta t.high) (rw t.beta below) t.found) in
    let step : tries_cost (tried_cost p (d - 1) w.beta) (reply_value p (d - 1)) inner.alpha w.beta (drop i (moves p))
    ≡ tried_cost p (d - 1) w.beta m inner.alpha + tries_cost (tried_cost p (d - 1) w.beta) (reply_value p (d - 1)) (int_max inner.alpha (reply_value p (d - 1) m)) w.beta (drop (i + 1) (moves p)) =
    tries-step (tried_cost p (d - 1) w.beta) (reply_value p (d - 1)) inner.alpha w.beta (moves p) i m t.here under in
    rw up (omega (arith, so, k, step))

-- ---- the end of the loop

pub end-found : (p : Position) (d : ℕ) (w : Window) (i : ℕ) (alpha : ℤ) → IsInner p d → length (moves p) ≤ i → alpha <ℤ w.beta →
    greatest_from alpha (map (reply_value p (d - 1)) (drop i (moves p))) ≡ greatest_from w.alpha (map (reply_value p (d - 1)) (moves p)) →
    IsFound (value p d) w alpha
end-found p d w i alpha inner past high so =
    let worth = reply_value p (d - 1) in
    let e : alpha ≡ greatest_from w.alpha (map worth (moves p)) = greatest-end worth (moves p) i alpha _ so past in
    let f : greatest_from w.alpha (map worth (moves p)) ≡ int_max w.alpha (greatest (map worth (moves p))) =
    greatest_from-greatest w.alpha worth (moves p) (moves-not_over p inner.open_) in
    found-raised (value p d) w alpha high (e ∙ f ∙ ap (int_max w.alpha) (sym (value-greatest p d inner)))

-- ---- from what the calls ensure

pub move-here : (start entered : History) (s old s1 : Levels) (level i : ℕ) (m : Move) → entered ≡ start → s1 ≡ with_level old (moves (position entered)) →
    s ≡ s1 → level ≡ length old.lists → slice_get (level_of s level) i ≡ Some m → slice_get (moves (position start)) i ≡ Some m
move-here start entered s old s1 level i m ee el es en e =
    listed-at s old (moves (position start)) level i m (es ∙ el ∙ ap (λ (h : History). with_level old (moves (position h))) ee) en e

pub move-legal : (start entered now : History) (s old s1 : Levels) (level i : ℕ) (m : Move) → entered ≡ start → s1 ≡ with_level old (moves (position entered)) →
    s ≡ s1 → level ≡ length old.lists → slice_get (level_of s level) i ≡ Some m → now ≡ start → IsOn (moves (position now)) m
move-legal start entered now s old s1 level i m ee el es en e same =
    on-at (moves (position now)) i m (move-here now entered s old s1 level i m (ee ∙ sym same) el es en e)

pub turn-made : (start now : History) (d i : ℕ) (m : Move) (w inner : Window) (r : ℤ) → IsInner (position start) d → slice_get (moves (position start)) i ≡ Some m →
    now ≡ start → inner.beta ≡ w.beta → w.alpha ≤ℤ inner.alpha → inner.alpha <ℤ w.beta →
    IsFound (reply_value (position now) (d - 1) m) inner r → LoopTurn (position start) d w inner i m r
turn-made start now d i m w inner r open_ here same beta low high found = record {
  open_ = open_;
  here = here;
  beta = beta;
  low = low;
  high = high;
  found = subst (λ (h : History). IsFound (reply_value (position h) (d - 1) m) inner r) same found;
}

pub plays-here : (start now : History) (d : ℕ) (m : Move) (a b : ℤ) (n1 n2 : ℕ) → now ≡ start → n2 ≤ n1 + (1 + cost (after (position now) m) d a b) →
    n2 ≤ n1 + (1 + cost (after (position start) m) d a b)
plays-here start now d m a b n1 n2 same h = subst (λ (g : History). n2 ≤ n1 + (1 + cost (after (position g) m) d a b)) same h

pub count-here : (start entered : History) (old s1 : Levels) (level n : ℕ) → entered ≡ start → s1 ≡ with_level old (moves (position entered)) →
    level ≡ length old.lists → n ≡ length (level_of s1 level) → n ≡ length (moves (position start))
count-here start entered old s1 level n ee el en e =
    count-of-level s1 old (moves (position start)) level n (el ∙ ap (λ (h : History). with_level old (moves (position h))) ee) en e
