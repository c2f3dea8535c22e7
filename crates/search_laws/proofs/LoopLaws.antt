-- Steps of a loop over the moves of a level.
use Rattle.std.proofs.Common.{◌≡◌, ℕ, ◌+◌, ◌<◌, ◌≤◌, List, [], ◌∷◌, ◌++◌, length, drop, map, get_or, refl, ap, arith, ◌∙◌, ℤ, ◌≤ℤ◌, Some, length-append}
use Rattle.std.proofs.lemmas.Int.{ints, clamps}
use Rattle.std.proofs.lemmas.List.{drop_all}
use Rattle.std.specs.List.{slice_get}
use Rattle.std.specs.Int.{int_max}
use Rattle.hive_model.specs.declared.places.Move.{Move}
use Rattle.hive_model.specs.Stack.{Levels, level_of, with_level}
use Rattle.hive_model.specs.Minimax.{greatest_from, greatest}
use Rattle.hive_model.specs.Histories.{History, position, with_move}
use Rattle.hive_model.specs.Games.{after}
pub use Rattle.hive_model.proofs.GetLemmas.{on-at, drop-at}
use Rattle.search_laws.proofs.HistoryLaws.{position-with_move}

get_or-seam : {A : Type 0} (xs : List A) (x d : A) → get_or (xs ++ x ∷ []) (length xs) d ≡ x
get_or-seam [] x d = refl
get_or-seam (y ∷ xs) x d = get_or-seam xs x d

-- the level that was put on last
pub level_of-with_level : (s old : Levels) (ms : List Move) (level : ℕ) → s ≡ with_level old ms → level ≡ length old.lists → level_of s level ≡ ms
level_of-with_level s old ms level es el = rw (es, el) (get_or-seam old.lists ms [])

pub level-in : (s old : Levels) (ms : List Move) (level : ℕ) → s ≡ with_level old ms → level ≡ length old.lists → level < length s.lists
level-in s old ms level es el = rw es (omega (arith, length-append old.lists (ms ∷ [])))

pub drop-all : {A : Type 0} (xs : List A) (i : ℕ) → length xs ≤ i → drop i xs ≡ []
drop-all xs i h = drop_all i xs h

-- ---- minimax

pub int_max-below : (a x : ℤ) → a ≤ℤ x → int_max a x ≡ x
int_max-below a x h = omega (arith, ints, clamps)

-- one move more is tried
pub greatest-step : (r : Move → ℤ) (ms : List Move) (i : ℕ) (m : Move) (a b v : ℤ) →
    greatest_from a (map r (drop i ms)) ≡ v → slice_get ms i ≡ Some m → b ≡ int_max a (r m) → greatest_from b (map r (drop (i + 1) ms)) ≡ v
greatest-step r ms i m a b v so e is = rw is (rw (drop-at ms i m e) at so)

pub greatest-end : (r : Move → ℤ) (ms : List Move) (i : ℕ) (a v : ℤ) → greatest_from a (map r (drop i ms)) ≡ v → length ms ≤ i → a ≡ v
greatest-end r ms i a v so past = rw (drop-all ms i past) at so

-- a start below all of them changes nothing
pub greatest-start : (r : Move → ℤ) (ms : List Move) (a : ℤ) → ((m : Move) → a ≤ℤ r m) → 0 < length ms → greatest_from a (map r ms) ≡ greatest (map r ms)
greatest-start r [] a below some = absurd (omega arith)
greatest-start r (m ∷ ms) a below some = ap (λ z. greatest_from z (map r ms)) (int_max-below a (r m) (below m))

-- ---- what holds at one turn of a loop that plays each move of a level

-- the move that was read from the level is at its place in the list
pub listed-at : (s old : Levels) (ms : List Move) (level i : ℕ) (m : Move) → s ≡ with_level old ms → level ≡ length old.lists →
    slice_get (level_of s level) i ≡ Some m → slice_get ms i ≡ Some m
listed-at s old ms level i m es el e = rw (level_of-with_level s old ms level es el) at e

-- what was searched after a move
pub position-behind : (g0 g1 start : History) (m : Move) → g1 ≡ with_move g0 m → g0 ≡ start → position g1 ≡ after (position start) m
position-behind g0 g1 start m played same = ap position (played ∙ ap (λ g. with_move g m) same) ∙ position-with_move start m

-- a list of moves that was read whole
pub count-of-level : (s old : Levels) (ms : List Move) (level n : ℕ) → s ≡ with_level old ms → level ≡ length old.lists →
    n ≡ length (level_of s level) → n ≡ length ms
count-of-level s old ms level n es el e = e ∙ ap length (level_of-with_level s old ms level es el)
