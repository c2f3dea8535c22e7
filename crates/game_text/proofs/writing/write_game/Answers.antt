use Rattle.hive_model.specs.Strings.{string, string_under}
use Rattle.game_text.proofs.writing.write_game.Goals as goal

pub returns-clause-written : goal.returns-clause-written
unfolding string string_under
returns-clause-written g c = c.write_game_under.ensures.written
