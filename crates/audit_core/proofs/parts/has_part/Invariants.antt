use Rattle.std.proofs.Common.{◌≡◌, length}
use Rattle.hive_model.specs.Strings.{parts}
use Rattle.audit_core.specs.AuditState.{has_part}
use Rattle.audit_core.proofs.parts.has_part.Given as goal

abbrev pub invariant-parts : goal.invariant-parts
invariant-parts l = has_part (parts l.rest) l.word ≡ has_part (parts l.text) l.word

abbrev pub decreases-parts : goal.decreases-parts
decreases-parts l = length l.rest
