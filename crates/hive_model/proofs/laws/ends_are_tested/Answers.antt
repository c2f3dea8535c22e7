use Rattle.hive_model.proofs.OverLaws.{surrounded_from, from_surrounded, over_from, from_over}
use Rattle.hive_model.proofs.laws.ends_are_tested.Goals as goal

pub returns-clause-surrounded : goal.returns-clause-surrounded
returns-clause-surrounded c = λ b c. (surrounded_from b c, from_surrounded b c)

pub returns-clause-over : goal.returns-clause-over
returns-clause-over c = λ p. (over_from p, from_over p)
