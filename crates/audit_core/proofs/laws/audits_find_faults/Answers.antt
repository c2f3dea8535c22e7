use Rattle.audit_core.proofs.Found.{audits_find_faults}
use Rattle.audit_core.proofs.laws.audits_find_faults.Goals as goal

pub returns : goal.returns
returns c = audits_find_faults
