use Rattle.game_text.proofs.GameLaws.{one}
use Rattle.game_text.proofs.laws.lines_are_one_game.Goals as goal

pub returns : goal.returns
returns c = one
