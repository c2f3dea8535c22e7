use Rattle.hive_model.proofs.RuleLaws.{ground_from, from_ground, climbing_from, from_climbing, free_from, from_free}
use Rattle.hive_model.proofs.laws.steps_are_tested.Goals as goal

pub returns-clause-on_ground : goal.returns-clause-on_ground
returns-clause-on_ground c = λ b p q. (ground_from b p q, from_ground b p q)

pub returns-clause-climbing : goal.returns-clause-climbing
returns-clause-climbing c = λ b p q. (climbing_from b p q, from_climbing b p q)

pub returns-clause-free : goal.returns-clause-free
returns-clause-free c = λ b p q. (free_from b p q, from_free b p q)
