-- What a whole audit over a link has done.
use Rattle.std.specs.Prelude.{◌≡◌, ◌⊎◌, ℕ, ◌<◌, true, List, ◌++◌, length, take, Some, if◌then◌else◌}
use Rattle.io_edge.specs.Outside.{Told, Rose, behind}
use Rattle.io_edge.specs.Lines.{Line as Mark, lines}
use Rattle.audit_core.specs.declared.plan.AuditPlan.{AuditPlan}
use Rattle.audit_core.specs.declared.findings.Fault.{Fault}
use Rattle.audit_core.specs.declared.findings.Fault.TheVariants.{Late, Broke}
use Rattle.audit_core.specs.AuditState.{AuditState, start, is_ended, break_off, line_now}
use Rattle.audit_core.specs.Audits.{after_all, audit_of, sent_over, sent_in}
use Rattle.audit_command.specs.Wires.{HasFailed, Wire}

-- The first list is an initial part of the second.
abbrev pub IsFront : {X : Type 0} → List X → List X → Type 0
IsFront {X} front all = (more : List X) × (all ≡ front ++ more)

-- The audit, and the bytes sent, are those of an engine that says exactly these lines.
pub record IsAudit (plan : AuditPlan) (marks : List Mark) (t : AuditState) (before after : Told)
    : Type 0 where
  pub audit : t ≡ audit_of plan marks
  pub sent : after ≡ behind before (sent_in plan marks)

-- the fault that a failed read is reported as: late if there is a limit on the wait for an answer
abbrev pub unread : AuditPlan → Fault
unread plan = if plan.patient then Late else Broke

-- the audit of these lines, ended by this finding
abbrev pub broken_off : AuditPlan → List Mark → Fault → AuditState
broken_off plan marks fault = break_off (after_all (start plan) marks) fault

-- Exactly these bytes were sent for the lines. They are all that goes before the line waiting after
-- them, and an initial part of this line, but not all of it.
abbrev pub IsCutOff : AuditPlan → List Mark → List ℕ → Type 0
IsCutOff plan marks bytes =
    (n : ℕ) × (n < length (line_now (after_all (start plan) marks)))
    × (bytes ≡ sent_over (start plan) marks ++ take n (line_now (after_all (start plan) marks)))

-- How an audit ends if these lines of its engine were read, and these bytes were sent for them. It
-- may be that of an engine that says exactly these lines, with everything sent. A read may have
-- failed after them, which is reported as late or broke, with everything sent. Or a write failed,
-- which is reported as broke.
abbrev pub Ends : AuditPlan → List Mark → List ℕ → AuditState → Type 0 → Type 0 → Type 0
Ends plan marks bytes t read_failed write_failed =
    ((t ≡ audit_of plan marks) × (bytes ≡ sent_in plan marks))
    ⊎ (((t ≡ broken_off plan marks (unread plan)) × (bytes ≡ sent_in plan marks) × read_failed)
    ⊎ ((t ≡ broken_off plan marks Broke) × IsCutOff plan marks bytes × write_failed))

-- An audit over a link came to its end. These are the first of the engine's lines, and they were
-- read. These bytes were sent for them. The audit is that of an engine that says exactly these
-- lines, or a call of the link failed after them. If the link's bytes are observable and no call
-- failed, audit and bytes are those of all its lines.
pub record RanOver (plan : AuditPlan) (t : AuditState) (w0 w : Wire) : Type 0 where
  pub over : is_ended t.stage ≡ true
  pub marks : List Mark
  pub first : (bytes : List ℕ) → w0.rest ≡ Some bytes → IsFront marks (lines bytes)
  pub sent : List ℕ
  pub ends : Ends plan marks sent t (Rose w0.reads w.reads) (Rose w0.writes w.writes)
  pub wrote : w.written ≡ behind w0.written sent
  pub told : (bytes : List ℕ) → w0.rest ≡ Some bytes → ¬ HasFailed w0 w
      → IsAudit plan (lines bytes) t w0.written w.written
