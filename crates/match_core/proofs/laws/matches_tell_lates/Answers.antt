use Rattle.match_core.proofs.Lates.{matches_tell_lates}
use Rattle.match_core.proofs.laws.matches_tell_lates.Goals as goal

pub returns : goal.returns
returns c = matches_tell_lates
