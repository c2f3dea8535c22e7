use Rattle.std.proofs.Common.{rules}
use Rattle.hive_model.specs.Strings.{string_under}
use Rattle.game_text.proofs.writing.write_game_under.Goals as goal

pub returns-clause-written : goal.returns-clause-written
unfolding string_under
returns-clause-written g c = search rules
