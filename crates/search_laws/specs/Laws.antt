-- The laws of minimax and of the number of plays of a search.
use Rattle.std.specs.Prelude.{◌≡◌, ℕ, suc, ◌+◌, ◌≤◌, false, Some, ℤ, pos, neg_ℤ, ◌≤ℤ◌, ◌↔◌}
use Rattle.std.specs.List.{sum_by}
use Rattle.hive_model.specs.declared.places.Move.{Move}
use Rattle.hive_model.specs.Positions.{Position}
use Rattle.hive_model.specs.Legal.{state, is_over, moves}
use Rattle.hive_model.specs.Games.{after}
use Rattle.hive_model.specs.Evaluation.{eval}
use Rattle.hive_model.specs.Minimax.{IsInner, IsBest, end_value, value, replies, greatest, best, lines, nodes}
use Rattle.hive_model.specs.Costs.{cost}

-- the absolute value of the number is at most n
pub record IsSmall (n : ℕ) (z : ℤ) : Type 0 where
  pub low : neg_ℤ (pos n) ≤ℤ z
  pub high : z ≤ℤ pos n

-- The absolute value of an evaluation is at most 1000, and that of a value is at most 1000000 plus
-- the depth.
abbrev pub ValuesAreSmall : Type 0
ValuesAreSmall =
    (p : Position) → IsSmall 1000 (eval p) × ((d : ℕ) → IsSmall (1000000 + d) (value p d))

-- If the game is over, the value of a position is that of its end.
abbrev pub EndsAreWorth : Type 0
EndsAreWorth =
    (p : Position) (d : ℕ) (v : ℤ) → end_value (state p) p.side d ≡ Some v → value p d ≡ v

-- Otherwise its value is the evaluation at depth 0, and at a greater depth the greatest value of
-- its moves.
abbrev pub ValuesGoDeeper : Type 0
ValuesGoDeeper =
    (p : Position) → is_over p ≡ false → (value p 0 ≡ eval p)
    × ((d : ℕ) → value p (suc d) ≡ greatest (replies p d))

-- The lists of n + 1 legal moves are the lists of n moves after each legal move.
abbrev pub LinesGoDeeper : Type 0
LinesGoDeeper =
    (p : Position) → (lines p 0 ≡ 1) × ((n : ℕ)
    → lines p (suc n) ≡ sum_by (λ m. lines (after p m) n) (moves p))

-- The lists of 1 to n + 1 moves are each legal move alone, and each followed by a list of 1 to n
-- moves.
abbrev pub NodesGoDeeper : Type 0
NodesGoDeeper =
    (p : Position) (n : ℕ) → nodes p (suc n) ≡ sum_by (λ m. 1 + nodes (after p m) n) (moves p)

-- A narrower window does not cost more.
abbrev pub CostFalls : Type 0
CostFalls =
    (p : Position) (d : ℕ) (a a' b b' : ℤ) → a ≤ℤ a' → b' ≤ℤ b → cost p d a' b' ≤ cost p d a b

-- At an inner node there is a best move, and it is the first of those with the greatest value.
abbrev pub BestIsFirstGreatest : Type 0
BestIsFirstGreatest =
    (p : Position) (d : ℕ) → IsInner p d
    → ((m : Move) × (best p d ≡ Some m)) × ((m : Move) → (best p d ≡ Some m) ↔ IsBest p d m)
