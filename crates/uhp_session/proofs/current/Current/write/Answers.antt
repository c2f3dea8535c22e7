use Rattle.std.proofs.Common.{rules}
use Rattle.hive_model.specs.Strings.{string_under}
use Rattle.uhp_session.proofs.current.Current.write.Goals as goal

pub returns-clause-written : goal.returns-clause-written
unfolding string_under
returns-clause-written g c = search rules
