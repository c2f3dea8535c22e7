use Rattle.hive_model.specs.Placement.{Placement}
use Rattle.hand_rules.specs.Listing.{ListsBelow}
use Rattle.hand_rules.specs.Bringing.{position_awake}
use Rattle.hand_rules.proofs.bringing.placements.Given as goal

abbrev pub invariant-loop-x : goal.invariant-loop-x
invariant-loop-x g l = record {
  below : ListsBelow (Placement (position_awake l.game_type (g.B.Board.stacks l.board) l.colour l.turn)) l.x l.fn.out l.out;
}
