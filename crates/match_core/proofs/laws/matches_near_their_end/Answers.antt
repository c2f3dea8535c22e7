use Rattle.match_core.proofs.Falls.{matches_near_their_end}
use Rattle.match_core.proofs.laws.matches_near_their_end.Goals as goal

pub returns : goal.returns
returns c = matches_near_their_end
