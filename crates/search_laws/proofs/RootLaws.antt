-- The loop over the moves of a root, over plain values.
use Rattle.std.proofs.Common.{◌≡◌, ℕ, ◌+◌, ◌-◌, ◌%◌, ◌≤◌, Bool, cond, List, [], ◌∷◌, length, drop, map, refl, ap, subst, arith, ◌∙◌, ℤ, pos, negsuc, neg_ℤ, ◌-ℤ◌, ◌≤ℤ◌, ◌<ℤ◌, Some}
use Rattle.std.proofs.lemmas.Int.{ints, clamps, by_lt_z}
use Rattle.std.specs.List.{slice_get, find}
use Rattle.std.specs.Int.{int_max}
use Rattle.hive_model.specs.declared.places.Move.{Move}
use Rattle.hive_model.specs.Positions.{Position}
use Rattle.hive_model.specs.Legal.{moves}
use Rattle.hive_model.specs.Games.{after}
use Rattle.hive_model.specs.Minimax.{IsInner, value, reply_value, greatest_from, best}
use Rattle.hive_model.specs.Costs.{root_cost, every_from, cost}
use Rattle.hive_model.specs.Histories.{History, position}
use Rattle.search_laws.proofs.LoopLaws.{drop-at, greatest-step, greatest-end}
use Rattle.search_laws.proofs.Greatest.{greatest_from-start}
use Rattle.search_laws.specs.Laws.{IsSmall}
use Rattle.search_laws.proofs.MinimaxLaws.{IsSmall-neg, wider, value-within}
use Rattle.search_laws.proofs.BestLaws.{reaches, best-reaches}
use Rattle.search_laws.proofs.CostLaws.{int_le-false, int_le-true}
use Rattle.search_laws.specs.declared.window.Window.{Window}
use Rattle.search_laws.specs.Found.{IsFound}
use Rattle.search_laws.proofs.TurnLaws.{plays-here}

-- after i moves: the greatest value so far, and its first move
pub record Root (p : Position) (d i : ℕ) (g : ℤ) (m : Move) : Type 0 where
  pub rest : greatest_from g (map (reply_value p (d - 1)) (drop i (moves p))) ≡ value p d
  pub low : negsuc 1000089 ≤ℤ g
  pub seeking : g <ℤ value p d → find (reaches p d) (moves p) ≡ find (reaches p d) (drop i (moves p))
  pub reached : g ≡ value p d → find (reaches p d) (moves p) ≡ Some m

pub root-value : (p : Position) (d i : ℕ) (g : ℤ) (m : Move) → Root p d i g m → g ≤ℤ value p d
root-value p d i g m root =
    let k : g ≤ℤ greatest_from g (map (reply_value p (d - 1)) (drop i (moves p))) = greatest_from-start g (map (reply_value p (d - 1)) (drop i (moves p))) in
    omega (arith, ints, k, root.rest)

pub small-value : (p : Position) (d : ℕ) → d ≤ 64 → IsSmall 1000064 (value p d)
small-value p d deep = wider (1000000 + d) 1000064 (value p d) (omega arith) (value-within p d)

small-reply : (p : Position) (d : ℕ) (m : Move) → d ≤ 64 → IsSmall 1000064 (reply_value p (d - 1) m)
small-reply p d m deep = IsSmall-neg 1000064 (value (after p m) (d - 1)) (small-value (after p m) (d - 1) (omega arith))

-- what the search of one move shows
pub found-more : (p : Position) (d : ℕ) (m : Move) (w : Window) (g r : ℤ) → d ≤ 64 → w.alpha ≡ g -ℤ pos 1 → w.beta ≡ pos 1000100 →
    IsFound (reply_value p (d - 1) m) w r → g <ℤ r → r ≡ reply_value p (d - 1) m
found-more p d m w g r deep ea eb f more =
    let small = small-reply p d m deep in
    f.exact (omega (arith, ints)) (by_lt_z r w.beta (λ below. below)
    (λ not. let k : r ≤ℤ reply_value p (d - 1) m = f.lower not in absurd (omega (arith, ints, small.high))))

pub found-no_more : (p : Position) (d : ℕ) (m : Move) (w : Window) (g r : ℤ) → d ≤ 64 → w.alpha ≡ g -ℤ pos 1 → w.beta ≡ pos 1000100 →
    IsFound (reply_value p (d - 1) m) w r → r ≤ℤ g → g ≤ℤ pos 1000064 → reply_value p (d - 1) m ≤ℤ g
found-no_more p d m w g r deep ea eb f less high =
    by_lt_z w.alpha r
    (λ above. let k : r ≡ reply_value p (d - 1) m = f.exact above (omega (arith, ints)) in omega (arith, ints))
    (λ not. let k : reply_value p (d - 1) m ≤ℤ r = f.upper not in omega (arith, ints))

find-at : (test : Move → Bool) (ms : List Move) (i : ℕ) (m : Move) → slice_get ms i ≡ Some m → find test (drop i ms) ≡ cond (test m) (Some m) (find test (drop (i + 1) ms))
find-at test ms i m e = rw (drop-at ms i m e) refl

-- the move at i has a greater value than those before it
pub root-more : (p : Position) (d i : ℕ) (g : ℤ) (m n : Move) → Root p d i g m → slice_get (moves p) i ≡ Some n → g <ℤ reply_value p (d - 1) n →
    Root p d (i + 1) (reply_value p (d - 1) n) n
root-more p d i g m n root here more =
    let worth = reply_value p (d - 1) in
    let up : worth n ≡ int_max g (worth n) = omega (arith, ints, clamps) in
    let rest : greatest_from (worth n) (map worth (drop (i + 1) (moves p))) ≡ value p d = greatest-step worth (moves p) i n g (worth n) (value p d) root.rest here up in
    let top : worth n ≤ℤ greatest_from (worth n) (map worth (drop (i + 1) (moves p))) = greatest_from-start (worth n) (map worth (drop (i + 1) (moves p))) in
    let less : g <ℤ value p d = omega (arith, ints, top, rest) in
    let sought : find (reaches p d) (moves p) ≡ cond (reaches p d n) (Some n) (find (reaches p d) (drop (i + 1) (moves p))) =
    root.seeking less ∙ find-at (reaches p d) (moves p) i n here in
    record {
      rest = rest;
      low = omega (arith, ints, root.low);
      seeking = λ under. sought ∙ ap (λ t. cond t (Some n) (find (reaches p d) (drop (i + 1) (moves p)))) (int_le-false (value p d) (worth n) under);
      reached = λ same. sought ∙ ap (λ t. cond t (Some n) (find (reaches p d) (drop (i + 1) (moves p)))) (int_le-true (value p d) (worth n) (omega (arith, ints)));
    }

-- the move at i has no greater value
pub root-no_more : (p : Position) (d i : ℕ) (g : ℤ) (m n : Move) → Root p d i g m → slice_get (moves p) i ≡ Some n → reply_value p (d - 1) n ≤ℤ g →
    Root p d (i + 1) g m
root-no_more p d i g m n root here less =
    let worth = reply_value p (d - 1) in
    let up : g ≡ int_max g (worth n) = omega (arith, ints, clamps) in
    record {
      rest = greatest-step worth (moves p) i n g g (value p d) root.rest here up;
      low = root.low;
      seeking = λ under. root.seeking under ∙ find-at (reaches p d) (moves p) i n here
          ∙ ap (λ t. cond t (Some n) (find (reaches p d) (drop (i + 1) (moves p)))) (int_le-false (value p d) (worth n) (omega (arith, ints)));
      reached = root.reached;
    }

pub root-end : (p : Position) (d i : ℕ) (g : ℤ) (m : Move) → Root p d i g m → length (moves p) ≤ i → g ≡ value p d
root-end p d i g m root past = greatest-end (reply_value p (d - 1)) (moves p) i g (value p d) root.rest past

pub root-best : (p : Position) (d i : ℕ) (g : ℤ) (m : Move) → IsInner p d → Root p d i g m → length (moves p) ≤ i → best p d ≡ Some m
root-best p d i g m inner root past = best-reaches p d inner ∙ root.reached (root-end p d i g m root past)

-- ---- the plays

abbrev pub root_tried : Position → ℕ → Move → ℤ → ℕ
root_tried p d m g = 1 + cost (after p m) (d - 1) (negsuc 1000099) (pos 1 -ℤ g)

abbrev pub RootPlays : Position → ℕ → ℕ → ℤ → ℕ → ℕ → Type 0
RootPlays p d i g before now =
    now + root_cost (root_tried p d) (reply_value p (d - 1)) g (drop i (moves p))
    ≤ before + root_cost (root_tried p d) (reply_value p (d - 1)) (negsuc 1000089) (moves p)

pub root-plays : (p : Position) (d i : ℕ) (g h a b : ℤ) (m : Move) (n0 n1 n2 : ℕ) → slice_get (moves p) i ≡ Some m → RootPlays p d i g n0 n1 →
    n2 ≤ n1 + (1 + cost (after p m) (d - 1) a b) → a ≡ negsuc 1000099 → b ≡ pos 1 -ℤ g → h ≡ int_max g (reply_value p (d - 1) m) → RootPlays p d (i + 1) h n0 n2
root-plays p d i g h a b m n0 n1 n2 here so more ea eb up =
    let k : n2 ≤ n1 + (1 + cost (after p m) (d - 1) (negsuc 1000099) (pos 1 -ℤ g)) = rw (ea, eb) at more in
    let step : root_cost (root_tried p d) (reply_value p (d - 1)) g (drop i (moves p))
    ≡ root_tried p d m g + root_cost (root_tried p d) (reply_value p (d - 1)) (int_max g (reply_value p (d - 1) m)) (drop (i + 1) (moves p)) =
    rw (drop-at (moves p) i m here) refl in
    rw up (omega (arith, so, k, step))

every-all : (i : ℕ) (ms : List Move) → every_from i 0 1 ms ≡ ms
every-all i [] = refl
every-all i (m ∷ ms) =
    let e : i % 1 ≡ 0 = omega arith in
    rw e (ap (λ ns. m ∷ ns) (every-all (i + 1) ms))

-- ---- a turn, from what the calls ensure

pub record Tried (start : History) (d i : ℕ) (g : ℤ) (m n : Move) (w : Window) (r : ℤ) (n0 n1 n2 : ℕ) : Type 0 where
  pub root : Root (position start) d i g m
  pub here : slice_get (moves (position start)) i ≡ Some n
  pub deep : d ≤ 64
  pub alpha : w.alpha ≡ g -ℤ pos 1
  pub beta : w.beta ≡ pos 1000100
  pub found : IsFound (reply_value (position start) (d - 1) n) w r
  pub plays : RootPlays (position start) d i g n0 n1
  pub more : n2 ≤ n1 + (1 + cost (after (position start) n) (d - 1) (neg_ℤ w.beta) (neg_ℤ w.alpha))

pub record Kept (start : History) (d i : ℕ) (g : ℤ) (m : Move) (n0 n2 : ℕ) : Type 0 where
  pub root : Root (position start) d i g m
  pub plays : RootPlays (position start) d i g n0 n2

pub tried : (start now : History) (d i : ℕ) (g : ℤ) (m n : Move) (w : Window) (r : ℤ) (n0 n1 n2 : ℕ) → now ≡ start → Root (position start) d i g m →
    slice_get (moves (position start)) i ≡ Some n → d ≤ 64 → w.alpha ≡ g -ℤ pos 1 → w.beta ≡ pos 1000100 →
    IsFound (reply_value (position now) (d - 1) n) w r → RootPlays (position start) d i g n0 n1 →
    n2 ≤ n1 + (1 + cost (after (position now) n) (d - 1) (neg_ℤ w.beta) (neg_ℤ w.alpha)) → Tried start d i g m n w r n0 n1 n2
tried start now d i g m n w r n0 n1 n2 same root here deep ea eb found plays more = record {
  root = root;
  here = here;
  deep = deep;
  alpha = ea;
  beta = eb;
  found = subst (λ (h : History). IsFound (reply_value (position h) (d - 1) n) w r) same found;
  plays = plays;
  more = plays-here start now (d - 1) n (neg_ℤ w.beta) (neg_ℤ w.alpha) n1 n2 same more;
}

pub tried-more : (start : History) (d i : ℕ) (g : ℤ) (m n : Move) (w : Window) (r : ℤ) (n0 n1 n2 : ℕ) → Tried start d i g m n w r n0 n1 n2 → g <ℤ r →
    Kept start d (i + 1) r n n0 n2
tried-more start d i g m n w r n0 n1 n2 t above =
    let p = position start in
    let e : r ≡ reply_value p (d - 1) n = found-more p d n w g r t.deep t.alpha t.beta t.found above in
    let more : g <ℤ reply_value p (d - 1) n = omega (arith, ints, e) in
    record {
      root = rw e (root-more p d i g m n t.root t.here more);
      plays = root-plays p d i g r (neg_ℤ w.beta) (neg_ℤ w.alpha) n n0 n1 n2 t.here t.plays t.more (omega (arith, ints, t.beta)) (omega (arith, ints, t.alpha))
          (omega (arith, ints, clamps, e));
    }

pub tried-less : (start : History) (d i : ℕ) (g : ℤ) (m n : Move) (w : Window) (r : ℤ) (n0 n1 n2 : ℕ) → Tried start d i g m n w r n0 n1 n2 → r ≤ℤ g →
    Kept start d (i + 1) g m n0 n2
tried-less start d i g m n w r n0 n1 n2 t under =
    let p = position start in
    let top = root-value p d i g m t.root in
    let small = small-value p d t.deep in
    let less : reply_value p (d - 1) n ≤ℤ g = found-no_more p d n w g r t.deep t.alpha t.beta t.found under (omega (arith, ints, top, small.high)) in
    record {
      root = root-no_more p d i g m n t.root t.here less;
      plays = root-plays p d i g g (neg_ℤ w.beta) (neg_ℤ w.alpha) n n0 n1 n2 t.here t.plays t.more (omega (arith, ints, t.beta)) (omega (arith, ints, t.alpha))
          (omega (arith, ints, clamps));
    }
