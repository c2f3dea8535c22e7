-- A move that is tried before its turn, and left out when its turn comes, over plain values.
use Rattle.std.proofs.Common.{◌≡◌, ℕ, zero, suc, ◌+◌, ◌-◌, ◌<◌, ◌≤◌, List, [], ◌∷◌, length, drop, map, refl, sym, ap, subst, arith, ◌∙◌, ℤ, neg_ℤ, ◌≤ℤ◌, ◌<ℤ◌, Some, to_z, of_z, false}
use Rattle.std.proofs.lemmas.Int.{ints, clamps, by_lt_z, to_z-of_z}
use Rattle.std.specs.List.{slice_get}
use Rattle.std.specs.Int.{int_max}
use Rattle.std.proofs.lemmas.Option.{same_Some}
use mir.Val.{SFits}
use mir.Syntax.{w32}
use Rattle.hive_model.specs.declared.places.Move.{Move}
use Rattle.hive_model.specs.Positions.{Position}
use Rattle.hive_model.specs.Legal.{moves}
use Rattle.hive_model.specs.Games.{after}
use Rattle.hive_model.specs.Minimax.{IsInner, value, reply_value, greatest_from}
use Rattle.hive_model.specs.Costs.{tries_cost, most_by, cost}
use Rattle.hive_model.specs.Stack.{Levels, level_of, with_level}
use Rattle.hive_model.specs.Histories.{History, position}
use Rattle.search_laws.proofs.LoopLaws.{greatest-step, level_of-with_level}
use Rattle.search_laws.proofs.Greatest.{greatest-each}
use Rattle.search_laws.proofs.MinimaxLaws.{value-greatest}
use Rattle.search_laws.specs.Tries.{tried_cost}
use Rattle.search_laws.proofs.CostLaws.{cost-inner, tries-first, tries-step, tries-falls, TriedFalls, cost-falls}
use Rattle.search_laws.specs.declared.window.Window.{Window}
use Rattle.search_laws.specs.Found.{IsFound, IsOpen}
use Rattle.search_laws.proofs.FoundLaws.{found-below, found-raises}
use Rattle.search_laws.proofs.Signs.{below}
use lib.Signed.{le_z}
use Rattle.search_laws.proofs.TurnLaws.{LoopTurn, PlaysWithin}

-- ---- a move that is skipped, since it was tried before

pub skip-rest : (p : Position) (d i : ℕ) (m : Move) (alpha top : ℤ) → slice_get (moves p) i ≡ Some m → reply_value p (d - 1) m ≤ℤ alpha →
    greatest_from alpha (map (reply_value p (d - 1)) (drop i (moves p))) ≡ top → greatest_from alpha (map (reply_value p (d - 1)) (drop (i + 1) (moves p))) ≡ top
skip-rest p d i m alpha top here less so = greatest-step (reply_value p (d - 1)) (moves p) i m alpha alpha top so here (omega (arith, ints, clamps))

pub skip-plays : (p : Position) (d i : ℕ) (m : Move) (w : Window) (alpha : ℤ) (n0 n1 : ℕ) → slice_get (moves p) i ≡ Some m → reply_value p (d - 1) m ≤ℤ alpha → alpha <ℤ w.beta →
    PlaysWithin p d w alpha i n0 n1 → PlaysWithin p d w alpha (i + 1) n0 n1
skip-plays p d i m w alpha n0 n1 here less high so =
    let under : reply_value p (d - 1) m <ℤ w.beta = omega (arith, ints) in
    let same : int_max alpha (reply_value p (d - 1) m) ≡ alpha = omega (arith, ints, clamps) in
    let step : tries_cost (tried_cost p (d - 1) w.beta) (reply_value p (d - 1)) alpha w.beta (drop i (moves p))
    ≡ tried_cost p (d - 1) w.beta m alpha + tries_cost (tried_cost p (d - 1) w.beta) (reply_value p (d - 1)) (int_max alpha (reply_value p (d - 1) m)) w.beta (drop (i + 1) (moves p)) =
    tries-step (tried_cost p (d - 1) w.beta) (reply_value p (d - 1)) alpha w.beta (moves p) i m here under in
    let k = rw same at step in
    omega (arith, so, k)

pub here-in : (s s0 : Levels) (level i : ℕ) (ms : List Move) (m : Move) → s ≡ s0 → level_of s0 level ≡ ms → slice_get (level_of s level) i ≡ Some m → slice_get ms i ≡ Some m
here-in s s0 level i ms m es el e = rw (es, el) at e

-- ---- a move that is tried first

-- the rest was searched with alpha raised to the value of a move of the list
pub first-found : (v x : ℤ) (w rest : Window) (r : ℤ) → rest.alpha ≡ int_max w.alpha x → rest.beta ≡ w.beta → x ≤ℤ v → w.alpha <ℤ w.beta → IsFound v rest r → IsFound v w r
first-found v x w rest r ea eb low wide f = record {
  exact = λ a b. by_lt_z rest.alpha r
      (λ above. f.exact above (omega (arith, ints)))
      (λ not. let k : v ≤ℤ r = f.upper not in omega (arith, ints, clamps));
  upper = λ a. f.upper (omega (arith, ints, clamps));
  lower = λ b. f.lower (omega (arith, ints));
}

pub most_by-each : (f : Move → ℕ) (ms : List Move) (i : ℕ) (m : Move) → slice_get ms i ≡ Some m → f m ≤ most_by f ms
most_by-each f [] i m e = cc
most_by-each f (n ∷ ms) zero m e = let same : n ≡ m = cc in omega (arith, ap f same)
most_by-each f (n ∷ ms) (suc i) m e = omega (arith, most_by-each f ms i m e)

pub tried-falls : (p : Position) (d : ℕ) (b : ℤ) → TriedFalls (tried_cost p d b) (tried_cost p d b)
tried-falls p d b = λ m low low' h. omega (arith, cost-falls (after p m) d (neg_ℤ b) (neg_ℤ b) (neg_ℤ low) (neg_ℤ low') (omega (arith, ints)) (omega (arith, ints)))

pub first-plays : (p : Position) (d : ℕ) (w rest : Window) (i : ℕ) (m : Move) (n0 n1 n2 : ℕ) → IsInner p d → slice_get (moves p) i ≡ Some m → w.alpha ≤ℤ rest.alpha → rest.beta ≡ w.beta →
    n1 ≤ n0 + tried_cost p (d - 1) w.beta m w.alpha →
    n2 ≤ n1 + tries_cost (tried_cost p (d - 1) rest.beta) (reply_value p (d - 1)) rest.alpha rest.beta (moves p) → n2 ≤ n0 + cost p d w.alpha w.beta
first-plays p d w rest i m n0 n1 n2 inner here low eb one more =
    let first : tried_cost p (d - 1) w.beta m w.alpha ≤ most_by (λ n. tried_cost p (d - 1) w.beta n w.alpha) (moves p) =
    most_by-each (λ n. tried_cost p (d - 1) w.beta n w.alpha) (moves p) i m here in
    let k = rw eb at more in
    let fewer : tries_cost (tried_cost p (d - 1) w.beta) (reply_value p (d - 1)) rest.alpha w.beta (moves p) ≤ tries_cost (tried_cost p (d - 1) w.beta) (reply_value p (d - 1)) w.alpha w.beta (moves p) =
    tries-falls (tried_cost p (d - 1) w.beta) (tried_cost p (d - 1) w.beta) (reply_value p (d - 1)) w.alpha rest.alpha w.beta w.beta (moves p) (tried-falls p (d - 1) w.beta) low (omega (arith, ints)) in
    rw (cost-inner p d w.alpha w.beta inner) (omega (arith, one, k, first, fewer))

pub none-plays : (p : Position) (d : ℕ) (w rest : Window) (n0 n2 : ℕ) → IsInner p d → rest.alpha ≡ w.alpha → rest.beta ≡ w.beta →
    n2 ≤ n0 + tries_cost (tried_cost p (d - 1) rest.beta) (reply_value p (d - 1)) rest.alpha rest.beta (moves p) → n2 ≤ n0 + cost p d w.alpha w.beta
none-plays p d w rest n0 n2 inner ea eb more =
    let k = rw (ea, eb) at more in
    rw (cost-inner p d w.alpha w.beta inner) (omega (arith, k))

-- ---- from what the calls ensure

pub at-place : (ms : List Move) (i : ℕ) → i < length ms → (m : Move) × (slice_get ms i ≡ Some m)
at-place [] i h = absurd (omega arith)
at-place (m ∷ ms) zero h = (m, refl)
at-place (m ∷ ms) (suc i) h = at-place ms i (omega arith)

pub reply-low : (p : Position) (d i : ℕ) (m : Move) → IsInner p d → slice_get (moves p) i ≡ Some m → reply_value p (d - 1) m ≤ℤ value p d
reply-low p d i m inner here =
    let each = greatest-each (reply_value p (d - 1)) (moves p) i m here in
    omega (arith, ints, each, value-greatest p d inner)

-- what the search of the rest requires, if the first move raised alpha
pub hint-worth : (start now : History) (d i : ℕ) (n : Move) (alpha : ℤ) → now ≡ start → slice_get (moves (position start)) i ≡ Some n → reply_value (position start) (d - 1) n ≤ℤ alpha →
    (m : Move) → slice_get (moves (position now)) i ≡ Some m → reply_value (position now) (d - 1) m ≤ℤ alpha
hint-worth start now d i n alpha same here less = subst
    (λ (h : History). (m : Move) → slice_get (moves (position h)) i ≡ Some m → reply_value (position h) (d - 1) m ≤ℤ alpha)
    (sym same)
    (λ m e. let k : n ≡ m = same_Some n m (sym here ∙ e) in omega (arith, ints, less, ap (reply_value (position start) (d - 1)) k))

pub inner-here : (start now : History) (d : ℕ) → now ≡ start → IsInner (position start) d → IsInner (position now) d
inner-here start now d same inner = subst (λ (h : History). IsInner (position h) d) (sym same) inner

pub tries-here : (start now : History) (d : ℕ) (w : Window) (n1 n2 : ℕ) → now ≡ start →
    n2 ≤ n1 + tries_cost (tried_cost (position now) (d - 1) w.beta) (reply_value (position now) (d - 1)) w.alpha w.beta (moves (position now)) →
    n2 ≤ n1 + tries_cost (tried_cost (position start) (d - 1) w.beta) (reply_value (position start) (d - 1)) w.alpha w.beta (moves (position start))
tries-here start now d w n1 n2 same h = subst
    (λ (g : History). n2 ≤ n1 + tries_cost (tried_cost (position g) (d - 1) w.beta) (reply_value (position g) (d - 1)) w.alpha w.beta (moves (position g))) same h

pub found-here : (start now : History) (d : ℕ) (w : Window) (r : ℤ) → now ≡ start → IsFound (value (position now) d) w r → IsFound (value (position start) d) w r
found-here start now d w r same f = subst (λ (g : History). IsFound (value (position g) d) w r) same f

pub reply-here : (start now : History) (d : ℕ) (m : Move) (w : Window) (r : ℤ) → now ≡ start → IsFound (reply_value (position now) d m) w r → IsFound (reply_value (position start) d m) w r
reply-here start now d m w r same f = subst (λ (g : History). IsFound (reply_value (position g) d m) w r) same f

pub moves-listed : (start now : History) (s old s1 : Levels) (level : ℕ) → now ≡ start → s ≡ s1 → s1 ≡ with_level old (moves (position start)) → level ≡ length old.lists →
    level_of s level ≡ moves (position now)
moves-listed start now s old s1 level same es el en = level_of-with_level s old (moves (position start)) level (es ∙ el) en ∙ ap (λ (g : History). moves (position g)) (sym same)

-- a single move that reaches beta
pub first-cut : (p : Position) (d i : ℕ) (m : Move) (w : Window) (n0 n1 n2 : ℕ) → IsInner p d → slice_get (moves p) i ≡ Some m → n1 ≡ n0 →
    n2 ≤ n1 + tried_cost p (d - 1) w.beta m w.alpha → n2 ≤ n0 + cost p d w.alpha w.beta
first-cut p d i m w n0 n1 n2 inner here same more =
    let first : tried_cost p (d - 1) w.beta m w.alpha ≤ most_by (λ n. tried_cost p (d - 1) w.beta n w.alpha) (moves p) =
    most_by-each (λ n. tried_cost p (d - 1) w.beta n w.alpha) (moves p) i m here in
    rw (cost-inner p d w.alpha w.beta inner) (omega (arith, same, more, first))

pub cut-tries : (p : Position) (d : ℕ) (w inner : Window) (i : ℕ) (m : Move) (r : ℤ) (n0 n1 n2 : ℕ) → LoopTurn p d w inner i m r →
    PlaysWithin p d w inner.alpha i n0 n1 → n2 ≤ n1 + (1 + cost (after p m) (d - 1) (neg_ℤ inner.beta) (neg_ℤ inner.alpha)) →
    n2 ≤ n0 + tries_cost (tried_cost p (d - 1) w.beta) (reply_value p (d - 1)) w.alpha w.beta (moves p)
cut-tries p d w inner i m r n0 n1 n2 t so more =
    let k : n2 ≤ n1 + (1 + cost (after p m) (d - 1) (neg_ℤ w.beta) (neg_ℤ inner.alpha)) = rw t.beta at more in
    let first : 1 + cost (after p m) (d - 1) (neg_ℤ w.beta) (neg_ℤ inner.alpha) ≤ tries_cost (tried_cost p (d - 1) w.beta) (reply_value p (d - 1)) inner.alpha w.beta (drop i (moves p)) =
    tries-first (tried_cost p (d - 1) w.beta) (reply_value p (d - 1)) inner.alpha w.beta (moves p) i m t.here in
    omega (arith, so, k, first)

pub raised-is : (alpha found worth r : ℤ) → SFits w32 alpha → SFits w32 found → SFits w32 r → r ≡ int_max (to_z w32 (of_z w32 alpha)) (to_z w32 (of_z w32 found)) →
    int_max alpha found ≡ int_max alpha worth → to_z w32 (of_z w32 r) ≡ int_max alpha worth
raised-is alpha found worth r fa ff fr e up =
    to_z-of_z w32 r fr ∙ e ∙ ap (λ z. int_max z (to_z w32 (of_z w32 found))) (to_z-of_z w32 alpha fa) ∙ ap (int_max alpha) (to_z-of_z w32 found ff) ∙ up

-- the move that was tried first did not reach beta: alpha is raised to its value
pub record Raised (worth : ℤ) (w : Window) (alpha : ℤ) : Type 0 where
  pub is : alpha ≡ int_max w.alpha worth
  pub less : worth <ℤ w.beta

pub first-raised : (worth found r : ℤ) (w : Window) → IsOpen w → SFits w32 w.alpha → SFits w32 w.beta → SFits w32 found → SFits w32 r →
    r ≡ int_max (to_z w32 (of_z w32 w.alpha)) (to_z w32 (of_z w32 found)) → le_z (to_z w32 (of_z w32 w.beta)) (to_z w32 (of_z w32 found)) ≡ false →
    IsFound worth w found → Raised worth w (to_z w32 (of_z w32 r))
first-raised worth found r w wide fa fb ff fr e test tried =
    let under : found <ℤ w.beta = below w.beta found fb ff test in
    record {
      is = raised-is w.alpha found worth r fa ff fr e (found-raises worth w found under tried);
      less = found-below worth w found wide.open_ under tried;
    }
