use Rattle.uhp_session.proofs.BestLaws.{best_named}
use Rattle.uhp_session.proofs.laws.best_moves_are_named.Goals as goal

pub returns : goal.returns
returns c = best_named
