use Rattle.grow_game.proofs.GrowLaws.{makes-game}
use Rattle.grow_game.proofs.laws.grown_moves_are_games.Goals as goal

pub returns : goal.returns
returns c = makes-game
