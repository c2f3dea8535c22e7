use Rattle.rule_laws.proofs.StateLaws.{begins, goes}
use Rattle.rule_laws.proofs.readings.games_begin_and_go_on.Goals as goal

pub returns-clause-begins : goal.returns-clause-begins
returns-clause-begins c = begins

pub returns-clause-goes_on : goal.returns-clause-goes_on
returns-clause-goes_on c = goes
