use Rattle.audit_core.proofs.Judged.{replies_are_judged}
use Rattle.audit_core.proofs.laws.replies_are_judged.Goals as goal

pub returns : goal.returns
returns c = replies_are_judged
