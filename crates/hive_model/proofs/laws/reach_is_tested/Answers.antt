use Rattle.hive_model.proofs.ReachLaws.{reach_from, from_reach}
use Rattle.hive_model.proofs.laws.reach_is_tested.Goals as goal

pub returns : goal.returns
returns c = λ k b p q. (reach_from k b p q, from_reach k b p q)
