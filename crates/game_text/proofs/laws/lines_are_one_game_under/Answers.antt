use Rattle.game_text.proofs.GameLaws.{one_under}
use Rattle.game_text.proofs.LineLaws.{off_plain}
use Rattle.game_text.proofs.laws.lines_are_one_game_under.Goals as goal

pub returns-clause-one : goal.returns-clause-one
returns-clause-one c = one_under

pub returns-clause-off : goal.returns-clause-off
returns-clause-off c = off_plain
