use Rattle.cup.proofs.Totals.{points-add-up}
use Rattle.cup.proofs.laws.points_add_up.Goals as goal

pub returns : goal.returns
returns c = points-add-up
