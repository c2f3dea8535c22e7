use Rattle.std.proofs.Common.{ℕ, ◌<◌}
use Rattle.hand_rules.specs.Bringing.{MayBring}
use Rattle.hand_rules.proofs.bringing.can_bring.Given as goal

abbrev pub invariant-loop-x : goal.invariant-loop-x
invariant-loop-x g l = (y : ℕ) → y < l.x → ¬ MayBring l.game_type (g.B.Board.stacks l.board) l.colour l.turn y
