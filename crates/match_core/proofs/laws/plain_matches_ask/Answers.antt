use Rattle.match_core.proofs.Stands.{plain_matches_ask}
use Rattle.match_core.proofs.laws.plain_matches_ask.Goals as goal

pub returns : goal.returns
returns c = plain_matches_ask
