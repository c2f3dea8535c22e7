use Rattle.hive_model.proofs.SameKeys.{keys}
use Rattle.hive_model.proofs.laws.keys_are_compared.Goals as goal

pub returns : goal.returns
returns c = keys
