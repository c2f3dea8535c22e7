use Rattle.search_laws.proofs.MinimaxLaws.{eval-within, value-within, value-over, value-open, value-inner}
use Rattle.search_laws.proofs.laws.values_go_deeper.Goals as goal

pub returns-clause-small : goal.returns-clause-small
returns-clause-small c = λ p. (eval-within p, value-within p)

pub returns-clause-ends : goal.returns-clause-ends
returns-clause-ends c = value-over

pub returns-clause-deeper : goal.returns-clause-deeper
returns-clause-deeper c = λ p open_. (value-open p open_, λ d. value-inner p d open_)
