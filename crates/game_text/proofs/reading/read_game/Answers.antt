use Rattle.game_text.proofs.LineLaws.{off_plain, plain_line}
use Rattle.game_text.proofs.reading.read_game.Goals as goal

pub returns-clause-game : goal.returns-clause-game
returns-clause-game g c = plain_line c.args.text.now c.read_game_under.result c.read_game_under.ensures.game

pub returns-clause-only : goal.returns-clause-only
returns-clause-only g c = λ t ms h. c.read_game_under.ensures.only t ms ((off_plain c.args.text.now t ms).1 h)
