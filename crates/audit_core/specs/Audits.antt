-- The audit of an engine that says these lines, and what it is sent.
use Rattle.std.specs.Prelude.{ℕ, cond, List, [], ◌∷◌, ◌++◌}
use Rattle.io_edge.specs.Lines.{Line as Mark}
use Rattle.audit_core.specs.declared.plan.AuditPlan.{AuditPlan}
use Rattle.audit_core.specs.declared.findings.Fault.TheVariants.{Ended}
use Rattle.audit_core.specs.AuditState.{AuditState, start, sent, line_now, at_mark, is_ended, break_off}

-- The line that is waiting is sent, and then a line is read. Nothing happens once the audit is
-- over.
abbrev pub step : AuditState → Mark → AuditState
step s mark = cond (is_ended s.stage) s (at_mark (sent s) mark)

-- the audit after these lines
abbrev pub after_all : AuditState → List Mark → AuditState
after_all s [] = s
after_all s (mark ∷ marks) = after_all (step s mark) marks

-- No line is left. An audit that is not over ends with this finding.
abbrev pub close : AuditState → AuditState
close s = cond (is_ended s.stage) s (break_off s Ended)

-- the audit of an engine that says exactly these lines
unfoldable pub audit_of : AuditPlan → List Mark → AuditState
audit_of plan marks = close (after_all (start plan) marks)

-- the bytes that were sent before these lines were read
abbrev pub sent_over : AuditState → List Mark → List ℕ
sent_over s [] = []
sent_over s (mark ∷ marks) = line_now s ++ sent_over (step s mark) marks

-- the bytes that are sent to an engine that says exactly these lines
unfoldable pub sent_in : AuditPlan → List Mark → List ℕ
sent_in plan marks = sent_over (start plan) marks ++ line_now (after_all (start plan) marks)
