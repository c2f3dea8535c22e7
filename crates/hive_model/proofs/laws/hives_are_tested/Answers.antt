use Rattle.hive_model.proofs.RuleLaws.{neighbours_from, from_neighbours}
use Rattle.hive_model.proofs.NearLaws.{one_hive_from, from_one_hive}
use Rattle.hive_model.proofs.CutLaws.{cut_from, from_cut}
use Rattle.hive_model.proofs.WalkLaws.{separating_from, from_separating}
use Rattle.hive_model.proofs.laws.hives_are_tested.Goals as goal

pub returns-clause-neighbours : goal.returns-clause-neighbours
returns-clause-neighbours c = λ p q. (neighbours_from p q, from_neighbours p q)

pub returns-clause-one_hive : goal.returns-clause-one_hive
returns-clause-one_hive c = λ b is. (one_hive_from b is.stacks, from_one_hive b is.stacks)

pub returns-clause-separating : goal.returns-clause-separating
returns-clause-separating c = λ b is p. (separating_from b is p, from_separating b is p)

pub returns-clause-cut : goal.returns-clause-cut
returns-clause-cut c = λ b is p. (cut_from b is p, from_cut b is p)
