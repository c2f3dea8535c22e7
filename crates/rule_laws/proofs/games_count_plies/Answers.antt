use Rattle.rule_laws.proofs.Games.{games_count}
use Rattle.rule_laws.proofs.games_count_plies.Goals as goal

pub returns : goal.returns
returns c = games_count
