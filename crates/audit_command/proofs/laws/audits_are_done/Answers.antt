use Rattle.audit_command.proofs.AuditLaws.{audits_are_done}
use Rattle.audit_command.proofs.laws.audits_are_done.Goals as goal

pub returns : goal.returns
returns c = audits_are_done
