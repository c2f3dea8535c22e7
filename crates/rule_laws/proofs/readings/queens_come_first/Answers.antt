use Rattle.rule_laws.proofs.QueenLaws.{queens_first}
use Rattle.rule_laws.proofs.readings.queens_come_first.Goals as goal

pub returns : goal.returns
returns c = queens_first
