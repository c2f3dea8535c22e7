use Rattle.win_bounds.proofs.TestLaws.{far_from, from_far}
use Rattle.win_bounds.proofs.MoveLaws.{far_moves}
use Rattle.win_bounds.proofs.ValueLaws.{far_value}
use Rattle.win_bounds.proofs.laws.far_positions_are_not_won.Goals as goal

pub returns-clause-tested : goal.returns-clause-tested
returns-clause-tested c = λ p. (far_from p, from_far p)

pub returns-clause-moves : goal.returns-clause-moves
returns-clause-moves c = far_moves

pub returns-clause-worth : goal.returns-clause-worth
returns-clause-worth c = far_value
