use Rattle.rule_laws.proofs.Games.{games_sound}
use Rattle.rule_laws.proofs.games_are_sound.Goals as goal

pub returns : goal.returns
returns c = games_sound
