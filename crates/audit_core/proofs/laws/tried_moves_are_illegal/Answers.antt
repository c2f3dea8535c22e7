use Rattle.audit_core.proofs.Tried.{tried_are_illegal}
use Rattle.audit_core.proofs.laws.tried_moves_are_illegal.Goals as goal

pub returns : goal.returns
returns c = tried_are_illegal
