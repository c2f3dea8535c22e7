use Rattle.rule_laws.proofs.CountLaws.{types_counted}
use Rattle.rule_laws.proofs.readings.evaluations_count_the_type.Goals as goal

pub returns : goal.returns
returns c = types_counted
