use Rattle.match_core.proofs.Ends.{matches_are_judged}
use Rattle.match_core.proofs.laws.matches_are_judged.Goals as goal

pub returns : goal.returns
returns c = matches_are_judged
