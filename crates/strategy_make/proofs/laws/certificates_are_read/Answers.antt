use Rattle.strategy_make.proofs.ReadLaws.{heads, indices}
use Rattle.strategy_make.proofs.laws.certificates_are_read.Goals as goal

pub returns-clause-heads : goal.returns-clause-heads
returns-clause-heads c = heads

pub returns-clause-indices : goal.returns-clause-indices
returns-clause-indices c = indices
