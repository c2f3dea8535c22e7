use Rattle.hive_model.proofs.ThrowLaws.{thrower_from, from_thrower, thrown_from, from_thrown, throw_from, from_throw}
use Rattle.hive_model.proofs.laws.throws_are_tested.Goals as goal

pub returns-clause-thrower : goal.returns-clause-thrower
returns-clause-thrower c = λ b rest y small. (thrower_from b rest y small, from_thrower b rest y)

pub returns-clause-over : goal.returns-clause-over
returns-clause-over c = λ b is rest t x q. (thrown_from b is rest t x q, from_thrown b is rest t x q)

pub returns-clause-throw : goal.returns-clause-throw
returns-clause-throw c = λ p is x q. (throw_from p is x q, from_throw p is x q)
