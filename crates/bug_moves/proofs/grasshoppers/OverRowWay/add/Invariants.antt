use Rattle.std.proofs.Common.{◌≡◌, ℕ, suc, ◌-◌, ◌<◌, ◌≤◌}
use Rattle.std.specs.Prelude.{IsTrue}
use Rattle.hive_model.specs.Places.{steps}
use Rattle.hive_model.specs.Boards.{is_occupied}
use Rattle.bug_moves.proofs.grasshoppers.OverRowWay.add.Given as goal

abbrev pub invariant-row : goal.invariant-row
invariant-row g l = record {
  place : l.place ≡ steps (suc l.over) l.fn.from l.dir;
  over : (k : ℕ) → 0 < k → k ≤ l.over → IsTrue (is_occupied (g.B.Board.stacks l.board) (steps k l.fn.from l.dir));
}

abbrev pub decreases-row : goal.decreases-row
decreases-row g l = 20000 - l.over
