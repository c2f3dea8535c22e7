use Rattle.arcs.proofs.ArcBoards.{arc_but_one, another_beside, one_beside}
use Rattle.arcs.proofs.neighbour_laws.Goals as goal

pub returns-clause-end : goal.returns-clause-end
returns-clause-end c = arc_but_one

pub returns-clause-another : goal.returns-clause-another
returns-clause-another c = another_beside

pub returns-clause-one : goal.returns-clause-one
returns-clause-one c = one_beside
