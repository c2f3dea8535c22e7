use Rattle.std.proofs.Common.{◌≡◌, ◌<◌, ℕ, false}
use Rattle.hive_model.specs.Boards.{is_in_play}
use Rattle.move_text.proofs.moves.has_piece.Given as goal

abbrev pub invariant-loop-x : goal.invariant-loop-x
invariant-loop-x g l = (k : ℕ) → k < l.x → is_in_play (g.B.Board.stacks l.board) k ≡ false
