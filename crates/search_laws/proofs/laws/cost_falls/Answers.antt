use Rattle.search_laws.proofs.CostLaws.{cost-falls}
use Rattle.search_laws.proofs.laws.cost_falls.Goals as goal

pub returns : goal.returns
returns c = cost-falls
