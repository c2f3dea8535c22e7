use Rattle.hive_model.specs.Legal.{LegalPair}
use Rattle.hand_rules.specs.Listing.{ListsBelow}
use Rattle.legal_moves.specs.Going.{position_of}
use Rattle.legal_moves.proofs.listing.push_pairs.Given as goal

abbrev pub invariant-loop-x : goal.invariant-loop-x
invariant-loop-x g l = record {
  below : ListsBelow (LegalPair (position_of (g.B.Board.stacks l.board) l.turn)) l.x l.fn.out l.out;
}
