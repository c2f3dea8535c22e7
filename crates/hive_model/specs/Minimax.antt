-- Minimax without windows or tables, in the order of the legal moves.
use Rattle.std.specs.Prelude.{◌≡◌, ℕ, zero, suc, ◌+◌, ◌-◌, ◌<◌, ◌/◌, false, List, [], ◌∷◌, map, slice_get, ℤ, pos, negsuc, neg_ℤ, int_le, ◌≤ℤ◌, ◌<ℤ◌, Option, Some, None, unwrap_or, find}
use Rattle.std.specs.List.{sum_by}
use Rattle.std.specs.Int.{int_max}
use Rattle.hive_model.specs.declared.pieces.Colour.{Colour}
use Rattle.hive_model.specs.declared.pieces.Colour.TheVariants.{White, Black}
use Rattle.hive_model.specs.declared.places.Move.{Move}
use Rattle.hive_model.specs.declared.places.State.{State}
use Rattle.hive_model.specs.declared.places.State.TheVariants.{NotStarted, InProgress, Draw, WhiteWins, BlackWins}
use Rattle.hive_model.specs.Positions.{Position}
use Rattle.hive_model.specs.Legal.{state, is_over, moves}
use Rattle.hive_model.specs.Games.{after}
use Rattle.hive_model.specs.Evaluation.{eval}

-- Values

-- The ends of every window lie between the lowest and the highest number. The values of positions
-- lie strictly between them.
abbrev pub lowest : ℤ
lowest = negsuc 1000099

abbrev pub highest : ℤ
highest = pos 1000100

-- What the end of a game is worth to a side when d plies were left to search. A draw is worth 0,
-- and a win is worth more the sooner it comes. There is none while the game goes on.
abbrev pub end_value : State → Colour → ℕ → Option ℤ
end_value NotStarted side d = None
end_value InProgress side d = None
end_value Draw side d = Some (pos 0)
end_value WhiteWins White d = Some (pos (1000000 + d))
end_value WhiteWins Black d = Some (neg_ℤ (pos (1000000 + d)))
end_value BlackWins White d = Some (neg_ℤ (pos (1000000 + d)))
end_value BlackWins Black d = Some (pos (1000000 + d))

-- the greatest of a and these numbers
abbrev pub greatest_from : ℤ → List ℤ → ℤ
greatest_from a [] = a
greatest_from a (x ∷ xs) = greatest_from (int_max a x) xs

-- the greatest of these numbers; the list must not be empty
abbrev pub greatest : List ℤ → ℤ
greatest [] = pos 0
greatest (x ∷ xs) = greatest_from x xs

-- The minimax value at depth d, for the side to move: d plies of best play by both sides.
unfoldable pub value : Position → ℕ → ℤ
value p zero = unwrap_or (end_value (state p) p.side 0) (eval p)
value p (suc d) =
    unwrap_or (end_value (state p) p.side (suc d))
    (greatest (map (λ m. neg_ℤ (value (after p m) d)) (moves p)))

-- the value of a move to the side that makes it, with d plies searched after it
abbrev pub reply_value : Position → ℕ → Move → ℤ
reply_value p d m = neg_ℤ (value (after p m) d)

-- the values of the legal moves in their order, with d plies searched after each
abbrev pub replies : Position → ℕ → List ℤ
replies p d = map (reply_value p d) (moves p)

-- The node is inner: the game is not over, and a ply is left to search.
pub record IsInner (p : Position) (d : ℕ) : Type 0 where
  pub deep : 0 < d
  pub open_ : is_over p ≡ false

-- The best move

-- x is the number at index i, none is greater, and each one before it is less.
pub record IsFirstGreatest (xs : List ℤ) (i : ℕ) (x : ℤ) : Type 0 where
  pub here : slice_get xs i ≡ Some x
  pub most : (j : ℕ) (y : ℤ) → slice_get xs j ≡ Some y → y ≤ℤ x
  pub first : (j : ℕ) (y : ℤ) → j < i → slice_get xs j ≡ Some y → y <ℤ x

-- The best move at depth d: the first of the legal moves with the greatest value.
pub record IsBest (p : Position) (d : ℕ) (m : Move) : Type 0 where
  pub place : ℕ
  pub move : slice_get (moves p) place ≡ Some m
  pub worth : IsFirstGreatest (replies p (d - 1)) place (reply_value p (d - 1) m)

-- The best move at depth d, at least 1, as a function: the first of the legal moves whose value is
-- the greatest.
unfoldable pub best : Position → ℕ → Option Move
best p d = find (λ m. int_le (greatest (replies p (d - 1))) (reply_value p (d - 1) m)) (moves p)

-- Counts

-- the number of lists of n legal moves, each legal after those before it (perft)
unfoldable pub lines : Position → ℕ → ℕ
lines p zero = 1
lines p (suc n) = sum_by (λ m. lines (after p m) n) (moves p)

-- the number of lists of 1 to n legal moves
unfoldable pub nodes : Position → ℕ → ℕ
nodes p zero = 0
nodes p (suc n) = nodes p n + lines p (suc n)

-- the sum of `nodes p e` for e from 2 to n + 1
abbrev pub deepening_nodes : Position → ℕ → ℕ
deepening_nodes p zero = 0
deepening_nodes p (suc n) = deepening_nodes p n + nodes p (n + 2)

-- How often a timed search may read the clock if n is the greatest depth that it completed.
unfoldable pub reads : Position → ℕ → ℕ
reads p n = 1 + n + deepening_nodes p n / 256
