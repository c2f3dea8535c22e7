use Rattle.game_text.proofs.GameLaws.{strings_under}
use Rattle.game_text.proofs.laws.strings_are_games_under.Goals as goal

pub returns : goal.returns
returns c = strings_under
