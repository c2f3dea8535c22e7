use Rattle.win_solver.proofs.CanForceLaws.{forced, tested}
use Rattle.win_solver.proofs.laws.tests_tell_forced_wins.Goals as goal

pub returns : goal.returns
returns c = λ p n side. (forced n p side, tested n p side)
