use Rattle.std.proofs.Common.{ℕ, ◌≤◌, ◌<◌}
use Rattle.hive_model.specs.Placement.{IsInHand}
use Rattle.hand_rules.proofs.hands.next_of.Given as goal

abbrev pub invariant-loop-x : goal.invariant-loop-x
invariant-loop-x g l = (y : ℕ) → l.first ≤ y → y < l.x → ¬ IsInHand l.game_type (g.B.Board.stacks l.board) y
