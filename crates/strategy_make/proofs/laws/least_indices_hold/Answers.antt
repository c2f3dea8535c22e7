use Rattle.strategy_make.proofs.ReadLaws.{least-hold}
use Rattle.strategy_make.proofs.laws.least_indices_hold.Goals as goal

pub returns : goal.returns
returns c = least-hold
