use Rattle.win_bounds.proofs.TestLaws.{safe_from, from_safe}
use Rattle.win_bounds.proofs.MoveLaws.{safe_moves}
use Rattle.win_bounds.proofs.ValueLaws.{safe_value}
use Rattle.win_bounds.proofs.laws.safe_positions_are_not_lost.Goals as goal

pub returns-clause-tested : goal.returns-clause-tested
returns-clause-tested c = λ p. (safe_from p, from_safe p)

pub returns-clause-moves : goal.returns-clause-moves
returns-clause-moves c = safe_moves

pub returns-clause-worth : goal.returns-clause-worth
returns-clause-worth c = safe_value
