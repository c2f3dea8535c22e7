use Rattle.hive_model.proofs.WalkLaws.{walk_from, from_walk}
use Rattle.hive_model.proofs.laws.walks_are_tested.Goals as goal

pub returns : goal.returns
returns c = λ p is x q. (walk_from p is x q, from_walk p is x q)
