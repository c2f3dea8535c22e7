use Rattle.hive_model.proofs.ListedLaws.{listed_on, on_listed}
use Rattle.hive_model.proofs.laws.listed_moves_are_tested.Goals as goal

pub returns : goal.returns
returns c = λ p m. (listed_on p m, on_listed p m)
