use Rattle.std.proofs.Common.{◌≡◌, ℕ, ◌<◌, false, ◌&&◌}
use Rattle.hive_model.specs.Pieces.{is_colour, colour_of}
use Rattle.hive_model.specs.Boards.{is_in_play}
use Rattle.hand_rules.proofs.colours.has_colour.Given as goal

abbrev pub invariant-loop-x : goal.invariant-loop-x
invariant-loop-x g l = (k : ℕ) → k < l.x → (is_colour (colour_of k) l.colour && is_in_play (g.B.Board.stacks l.board) k) ≡ false
