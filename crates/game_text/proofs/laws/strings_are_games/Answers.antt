use Rattle.game_text.proofs.GameLaws.{strings}
use Rattle.game_text.proofs.laws.strings_are_games.Goals as goal

pub returns : goal.returns
returns c = strings
