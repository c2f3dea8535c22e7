use Rattle.match_core.proofs.Ends.{matches_are_fair}
use Rattle.match_core.proofs.laws.matches_are_fair.Goals as goal

pub returns : goal.returns
returns c = matches_are_fair
