-- The laws of positions that are far from a win or a loss.
use Rattle.std.specs.Prelude.{◌≡◌, false, pos, neg_ℤ, ◌≤ℤ◌, IsTrue, ◌↔◌}
use Rattle.hive_model.specs.declared.places.Move.{Move}
use Rattle.hive_model.specs.Lists.{IsOn}
use Rattle.hive_model.specs.Pieces.{other_side}
use Rattle.hive_model.specs.Boards.{IsBoard}
use Rattle.hive_model.specs.Positions.{Position}
use Rattle.hive_model.specs.Legal.{is_surrounded, moves}
use Rattle.hive_model.specs.Games.{after}
use Rattle.hive_model.specs.Minimax.{value}
use Rattle.win_bounds.specs.FarFromWin.{IsFarFromWin, IsFarFromLoss, is_far_from_win, is_far_from_loss}

-- the test of being far from a win holds if and only if the position is
abbrev pub FarIsTested : Type 0
FarIsTested = (p : Position) → IsTrue (is_far_from_win p) ↔ IsFarFromWin p

-- far from a win, no legal move surrounds the other side's queen
abbrev pub FarMovesDoNotSurround : Type 0
FarMovesDoNotSurround =
    (p : Position) → IsBoard p.board → IsFarFromWin p → (m : Move) → IsOn (moves p) m
    → is_surrounded (after p m).board (other_side p.side) ≡ false

-- So a position that is far from a win is worth at most 1000 with one ply to search: an evaluation,
-- a draw or a loss.
abbrev pub FarIsNotWon : Type 0
FarIsNotWon = (p : Position) → IsBoard p.board → IsFarFromWin p → value p 1 ≤ℤ pos 1000

-- The same for a loss. The test decides it, no legal move surrounds the side's own queen, and the
-- position is worth at least -1000.
abbrev pub SafetyIsTested : Type 0
SafetyIsTested = (p : Position) → IsTrue (is_far_from_loss p) ↔ IsFarFromLoss p

abbrev pub SafeMovesDoNotSurround : Type 0
SafeMovesDoNotSurround =
    (p : Position) → IsBoard p.board → IsFarFromLoss p → (m : Move) → IsOn (moves p) m
    → is_surrounded (after p m).board p.side ≡ false

abbrev pub SafeIsNotLost : Type 0
SafeIsNotLost = (p : Position) → IsBoard p.board → IsFarFromLoss p → neg_ℤ (pos 1000) ≤ℤ value p 1
