use Rattle.audit_command.proofs.AuditLaws.{audits_are_right}
use Rattle.audit_command.proofs.laws.audits_are_right.Goals as goal

pub returns : goal.returns
returns c = audits_are_right
