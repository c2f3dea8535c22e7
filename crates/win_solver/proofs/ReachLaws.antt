-- A position is worth at least a number if and only if a legal move is.
use Rattle.std.proofs.Common.{◌≡◌, ℕ, ◌+◌, ◌-◌, ◌≤◌, Bool, true, false, List, drop, sym, ap, arith, ◌∙◌, ℤ, pos, neg_ℤ, ◌≤ℤ◌, ◌<ℤ◌, Option, Some, None}
use Rattle.std.specs.Prelude.{IsTrue, IfSome, IsSomeAnd, not, int_le, ◌-ℤ◌, ◌||◌}
use Rattle.std.proofs.lemmas.Int.{ints}
use Rattle.std.specs.List.{slice_get, list_any}
use Rattle.hive_model.specs.declared.places.Move.{Move}
use Rattle.hive_model.specs.Keys.{key}
use Rattle.hive_model.specs.Positions.{Position, IsSound}
use Rattle.hive_model.specs.Legal.{moves}
use Rattle.hive_model.specs.Minimax.{IsInner, value, reply_value}
use Rattle.hive_model.specs.Games.{after}
use Rattle.hive_model.specs.Histories.{History, position, with_move}
use Rattle.hive_model.proofs.RuleLaws.{any_has, has_any}
use Rattle.search_laws.proofs.HistoryLaws.{position-with_move}
use Rattle.search_laws.proofs.LoopLaws.{on-at, drop-at}
use Rattle.search_laws.proofs.BestLaws.{greatest-met}
use Rattle.search_laws.proofs.HintLaws.{reply-low}
use Rattle.search_laws.proofs.MinimaxLaws.{moves-not_over, value-greatest}
use Rattle.certificate_walks.specs.declared.limit.Limit.TheVariants.{AtLeast}
use Rattle.certificate_walks.proofs.SoundLaws.{keeps-true, true-keeps}
use Rattle.value_table.specs.Entries.{KnownParts}
use Rattle.value_table.specs.Truth.{stands, IsTrueOf}
use Rattle.search_core.proofs.EntryLaws.{known-stands}
use Rattle.win_solver.proofs.ForceLaws.{bool-is, at-place}

-- a move is worth at least this to the side that makes it
abbrev pub reply_reaches : Position → ℕ → ℤ → Move → Bool
reply_reaches p d n m = int_le n (reply_value p d m)

pub some-reaches : (p : Position) (d : ℕ) (n : ℤ) → IsInner p d → list_any (reply_reaches p (d - 1) n) (moves p) ≡ int_le n (value p d)
some-reaches p d n inner = bool-is (list_any (reply_reaches p (d - 1) n) (moves p)) (int_le n (value p d)) forth back where
  forth : list_any (reply_reaches p (d - 1) n) (moves p) ≡ true → int_le n (value p d) ≡ true
  forth e =
      let found = any_has (reply_reaches p (d - 1) n) (moves p) e in
      let at = at-place (moves p) found.0 found.1 in
      let high : n ≤ℤ reply_value p (d - 1) found.0 = keeps-true (AtLeast n) (reply_value p (d - 1) found.0) found.2 in
      let under : reply_value p (d - 1) found.0 ≤ℤ value p d = reply-low p d at.0 found.0 inner at.1 in
      true-keeps (AtLeast n) (value p d) (omega (arith, ints, high, under))

  back : int_le n (value p d) ≡ true → list_any (reply_reaches p (d - 1) n) (moves p) ≡ true
  back e =
      let high : n ≤ℤ value p d = keeps-true (AtLeast n) (value p d) e in
      let met = greatest-met (reply_value p (d - 1)) (moves p) (moves-not_over p inner.open_) in
      has_any (reply_reaches p (d - 1) n) (moves p) met.1 (on-at (moves p) met.0 met.1 met.2)
      (true-keeps (AtLeast n) (reply_value p (d - 1) met.1) (omega (arith, ints, high, met.3, value-greatest p d inner)))

-- one move that is worth at least this is enough
pub one-reaches : (p : Position) (d i : ℕ) (n : ℤ) (m : Move) → IsInner p d → slice_get (moves p) i ≡ Some m → reply_reaches p (d - 1) n m ≡ true → int_le n (value p d) ≡ true
one-reaches p d i n m inner here is =
    sym (some-reaches p d n inner) ∙ has_any (reply_reaches p (d - 1) n) (moves p) m (on-at (moves p) i m here) is

-- ---- the loop over the moves

pub any-step : (f : Move → Bool) (ms : List Move) (i : ℕ) (m : Move) (b : Bool) → slice_get ms i ≡ Some m → f m ≡ false → list_any f (drop i ms) ≡ b → list_any f (drop (i + 1) ms) ≡ b
any-step f ms i m b here fails so = sym (ap (list_any f) (drop-at ms i m here) ∙ ap (λ t. t || list_any f (drop (i + 1) ms)) fails) ∙ so

-- a value is at least n to one side if and only if it is not at least 1 - n to the other
pub turned-reaches : (n v : ℤ) → not (int_le (pos 1 -ℤ n) v) ≡ int_le n (neg_ℤ v)
turned-reaches n v = bool-is (not (int_le (pos 1 -ℤ n) v)) (int_le n (neg_ℤ v)) (λ e. grind (arith, ints)) (λ e. grind (arith, ints))

-- ---- tests of numbers

pub less-is : (n v : ℤ) → v <ℤ n → false ≡ int_le n v
less-is n v less = grind (arith, ints)

pub more-is : (n v : ℤ) → n ≤ℤ v → true ≡ int_le n v
more-is n v more = grind (arith, ints)

pub under-is : (n k v : ℤ) → k ≡ n -ℤ pos 1 → int_le n v ≡ false → int_le v k ≡ true
under-is n k v one less = grind (arith, ints)

-- ---- from what the calls ensure

pub reply-is : (start now : History) (d : ℕ) (n : ℤ) (m : Move) (r : Bool) → now ≡ start → r ≡ int_le n (reply_value (position now) d m) → r ≡ reply_reaches (position start) d n m
reply-is start now d n m r same is = is ∙ ap (λ (h : History). int_le n (reply_value (position h) d m)) same

pub child-reaches : (start played : History) (m : Move) (d : ℕ) (n k : ℤ) (r : Bool) → played ≡ with_move start m → k ≡ pos 1 -ℤ n → r ≡ int_le k (value (position played) d) →
    not r ≡ int_le n (reply_value (position start) d m)
child-reaches start played m d n k r moved one is =
    let there : position played ≡ after (position start) m = ap position moved ∙ position-with_move start m in
    ap not (is ∙ ap (λ z. int_le z (value (position played) d)) one ∙ ap (λ (p : Position). int_le (pos 1 -ℤ n) (value p d)) there)
    ∙ turned-reaches n (value (after (position start) m) d)

-- ---- the table

-- what an entry says is true of the position
pub told-is : (p : Position) (d : ℕ) (n : ℤ) (b : Bool) (o : Option KnownParts) → IsSound p → IfSome o (λ e. (e.depth ≡ d) × IsTrueOf (key p) e.depth e.bound e.value) →
    IsSomeAnd o (λ e. (v : ℤ) → IsTrue (stands e.bound v e.value) → b ≡ int_le n v) → b ≡ int_le n (value p d)
told-is p d n b None sound own told = absurd told
told-is p d n b (Some e) sound own told = told (value p d) (known-stands p d e sound own.1 own.0)
