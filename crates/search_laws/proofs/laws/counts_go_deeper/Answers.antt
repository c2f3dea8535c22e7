use Rattle.search_laws.proofs.NodesLaws.{lines-one, lines-next, nodes-step}
use Rattle.search_laws.proofs.laws.counts_go_deeper.Goals as goal

pub returns-clause-lines : goal.returns-clause-lines
returns-clause-lines c = λ p. (lines-one p, lines-next p)

pub returns-clause-nodes : goal.returns-clause-nodes
returns-clause-nodes c = nodes-step
