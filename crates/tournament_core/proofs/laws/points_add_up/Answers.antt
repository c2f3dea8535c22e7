use Rattle.tournament_core.proofs.Tallies.{points-add-up}
use Rattle.tournament_core.proofs.laws.points_add_up.Goals as goal

pub returns : goal.returns
returns c = points-add-up
