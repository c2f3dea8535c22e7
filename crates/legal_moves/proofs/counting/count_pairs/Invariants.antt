use Rattle.hive_model.specs.Legal.{LegalPair}
use Rattle.legal_moves.specs.Counting.{PairsAreMany}
use Rattle.legal_moves.specs.Going.{position_of}
use Rattle.legal_moves.proofs.counting.count_pairs.Given as goal

abbrev pub invariant-loop-x : goal.invariant-loop-x
invariant-loop-x g l = record {
  counted : PairsAreMany (LegalPair (position_of (g.B.Board.stacks l.board) l.turn)) l.x l.count;
}
