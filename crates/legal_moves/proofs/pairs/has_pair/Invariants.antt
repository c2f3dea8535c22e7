use Rattle.std.proofs.Common.{ℕ, ◌<◌}
use Rattle.hive_model.specs.declared.places.Place.{Place}
use Rattle.hive_model.specs.Legal.{LegalPair}
use Rattle.legal_moves.specs.Going.{position_of}
use Rattle.legal_moves.proofs.pairs.has_pair.Given as goal

abbrev pub invariant-loop-x : goal.invariant-loop-x
invariant-loop-x g l = (y : ℕ) (q : Place) → y < l.x → ¬ LegalPair (position_of (g.B.Board.stacks l.board) l.turn) y q
