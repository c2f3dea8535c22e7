use Rattle.hive_model.proofs.OverLaws.{from_over}
use Rattle.hive_model.proofs.MoveLaws.{moves_legal, legal_moves, moves_rise, pass_alone, over_moves, no_moves, moves_below}
use Rattle.hive_model.proofs.laws.moves_are_legal.Goals as goal

pub returns-clause-legal : goal.returns-clause-legal
returns-clause-legal c = λ p is m. (moves_legal p is m, legal_moves p is m)

pub returns-clause-order : goal.returns-clause-order
returns-clause-order c = moves_rise

pub returns-clause-pass : goal.returns-clause-pass
returns-clause-pass c = pass_alone

pub returns-clause-over : goal.returns-clause-over
returns-clause-over c = λ p. (no_moves p, λ h. over_moves p (from_over p h))

pub returns-clause-pieces : goal.returns-clause-pieces
returns-clause-pieces c = moves_below
