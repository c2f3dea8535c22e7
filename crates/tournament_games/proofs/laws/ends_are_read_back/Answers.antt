use Rattle.tournament_games.proofs.EndTexts.{ends-are-read-back}
use Rattle.tournament_games.proofs.laws.ends_are_read_back.Goals as goal

pub returns : goal.returns
returns c = ends-are-read-back
