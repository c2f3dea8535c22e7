-- What the audit of a program writes, plays, sends and counts, by the status with which it ends.
use Rattle.std.specs.Prelude.{◌≡◌, ◌⊎◌, ℕ, ◌+◌, ◌<◌, ◌≤◌, true, List, [], ◌∷◌, length, take, Some, ◌==◌, if◌then◌else◌}
use Rattle.io_edge.specs.Outside.{Told, Collects, HasCause, Rose, behind, with_last}
use Rattle.io_edge.specs.Starts.{Engines}
use Rattle.io_edge.specs.Lines.{Line as Mark, lines}
use Rattle.line_feed.specs.Feed.{input_limit}
use Rattle.command_runs.specs.World.{World}
use Rattle.command_runs.specs.declared.status.Status.{Status}
use Rattle.command_runs.specs.declared.status.Status.TheVariants.{Done, Refused, Usage, ReadFault, WriteFault, SpawnFault, BadInput, Memory, InputFull}
use Rattle.audit_core.specs.declared.plan.AuditPlan.{AuditPlan}
use Rattle.audit_core.specs.AuditState.{AuditState, is_ended}
use Rattle.audit_core.specs.Audits.{audit_of, sent_in}
use Rattle.audit_command.specs.Runs.{Ends, IsFront}

-- What was played

-- The audit is that of the lines of this program, which got what is sent for them.
pub record IsWhole (plan : AuditPlan) (bytes : List ℕ) (t : AuditState) (before after : Engines)
    : Type 0 where
  pub audit : t ≡ audit_of plan (lines bytes)
  pub gains : Collects before.sent after.sent (Some (sent_in plan (lines bytes)))

-- The first of the programs to come was started, and no other. These lines are the first ones that
-- it says, and it got these bytes. If no failure of it was counted, its audit is whole.
pub record StartsOneOf (all : List (List ℕ)) (plan : AuditPlan) (marks : List Mark) (sent : List ℕ)
    (t : AuditState) (before after : Engines) : Type 0 where
  pub bytes : List ℕ
  pub others : List (List ℕ)
  pub first : all ≡ bytes ∷ others
  pub left : after.to_come ≡ Some others
  pub heard : IsFront marks (lines bytes)
  pub gains : Collects before.sent after.sent (Some sent)
  pub whole : ¬ Rose before.engine_faults after.engine_faults
      → IsWhole plan bytes t before after

-- An audit came to its end, in this state. These lines were read, and these bytes were sent for
-- them. Either the audit is that of the lines, or a call of the link failed after them and was
-- counted. What its program says determines the lines.
pub record AuditOver (plan : AuditPlan) (t : AuditState) (before after : Engines) : Type 0 where
  pub over : is_ended t.stage ≡ true
  pub marks : List Mark
  pub sent : List ℕ
  pub ends : Ends plan marks sent t (Rose before.engine_faults after.engine_faults)
      (Rose before.engine_faults after.engine_faults)
  pub programs : (all : List (List ℕ)) → before.to_come ≡ Some all
      → StartsOneOf all plan marks sent t before after

-- The run

-- The text of an audit that came to its end was written.
pub record Tells (plan : AuditPlan) (t : AuditState) (before after : World) : Type 0 where
  pub played : AuditOver plan t before.engines after.engines
  pub wrote : after.sides.written ≡ behind before.sides.written t.text

-- The first n bytes of its text were written, and not all.
pub record TellsPart (plan : AuditPlan) (t : AuditState) (n : ℕ) (before after : World) : Type 0 where
  pub played : AuditOver plan t before.engines after.engines
  pub cut : n < length t.text
  pub wrote : after.sides.written ≡ behind before.sides.written (take n t.text)

-- No program was started, and nothing was written.
pub record NotBegun (before after : World) : Type 0 where
  pub written : after.sides.written ≡ before.sides.written
  pub unsent : after.engines.sent ≡ before.engines.sent

-- The first of the programs to come was started, and no other. It says at least as many bytes as
-- the limit of what is read.
pub record StartsLongOf (all : List (List ℕ)) (after : Engines) : Type 0 where
  pub bytes : List ℕ
  pub others : List (List ℕ)
  pub first : all ≡ bytes ∷ others
  pub left : after.to_come ≡ Some others
  pub full : input_limit ≤ length bytes

-- The program has written as many bytes as the limit of what is read, and nothing was written.
pub record IsFull (before after : World) : Type 0 where
  pub written : after.sides.written ≡ before.sides.written
  pub programs : (all : List (List ℕ)) → before.engines.to_come ≡ Some all
      → StartsLongOf all after.engines

-- What was written and played if an audit ends with this status. `Done` says that there is no
-- finding, and `Refused` that there are some. If memory ran out, or the program has written as many
-- bytes as the limit, nothing was written. An audit never ends with the remaining three statuses.
abbrev pub AuditRun : AuditPlan → Status → World → World → Type 0
AuditRun plan Done before after =
    (t : AuditState) × (t.findings ≡ 0) × Tells plan t before after
AuditRun plan Refused before after =
    (t : AuditState) × (0 < t.findings) × Tells plan t before after
AuditRun plan WriteFault before after = (t : AuditState) × (n : ℕ) × TellsPart plan t n before after
AuditRun plan SpawnFault before after = NotBegun before after
AuditRun plan Memory before after = after.sides.written ≡ before.sides.written
AuditRun plan InputFull before after = IsFull before after
AuditRun plan Usage before after = ⊥
AuditRun plan ReadFault before after = ⊥
AuditRun plan BadInput before after = ⊥

-- the status of an audit with this number of findings, once its text was written
abbrev pub verdict_of : ℕ → Status
verdict_of findings = if findings == 0 then Done else Refused

-- What was started

-- The program was started with its words.
abbrev pub IsStarted : List (List ℕ) → Engines → Engines → Type 0
IsStarted words before after = after.started ≡ with_last before.started words

-- The program that was started, by its words, if an audit ends with this status.
abbrev pub AuditStarts : Status → List (List ℕ) → Engines → Engines → Type 0
AuditStarts Done words before after = IsStarted words before after
AuditStarts Refused words before after = IsStarted words before after
AuditStarts WriteFault words before after = IsStarted words before after
AuditStarts InputFull words before after = IsStarted words before after
AuditStarts SpawnFault words before after = after.started ≡ before.started
AuditStarts Memory words before after =
    IsStarted words before after ⊎ (after.started ≡ before.started)
AuditStarts Usage words before after = ⊥
AuditStarts ReadFault words before after = ⊥
AuditStarts BadInput words before after = ⊥

-- No program that was started is left open. If this is observable, as many were closed as were
-- taken from those to come.
pub record NoProgramIsOpen (before after : Engines) : Type 0 where
  pub even : (coming later opened closed : List (List ℕ))
      → before.to_come ≡ Some coming
      → after.to_come ≡ Some later
      → before.sent ≡ Some opened
      → after.sent ≡ Some closed
      → length coming + length opened ≡ length later + length closed

-- No program is left open. If the status is `WriteFault`, a failed write was counted, and if it is
-- `SpawnFault`, a failed start.
pub record EndsAudit
    (status : Status) (writes_before writes_after : ℕ) (before after : Engines) : Type 0 where
  pub closed : NoProgramIsOpen before after
  pub writes : HasCause (status ≡ WriteFault) writes_before writes_after
  pub starts : HasCause (status ≡ SpawnFault) before.start_faults after.start_faults

-- On the way

-- An audit came to its end over the link of a started program, which was then closed.
pub record AuditedOver (plan : AuditPlan) (t : AuditState) (rest written : Told) (before after : Engines)
    : Type 0 where
  pub over : is_ended t.stage ≡ true
  pub marks : List Mark
  pub sent : List ℕ
  pub ends : Ends plan marks sent t (Rose before.engine_faults after.engine_faults)
      (Rose before.engine_faults after.engine_faults)
  pub heard : (bytes : List ℕ) → rest ≡ Some bytes → IsFront marks (lines bytes)
  pub gains : written ≡ Some [] → Collects before.sent after.sent (Some sent)
  pub whole : (bytes : List ℕ) → rest ≡ Some bytes → written ≡ Some []
      → ¬ Rose before.engine_faults after.engine_faults
      → IsWhole plan bytes t before after

-- No program was started, and no start failed.
pub record StartsNone (before after : Engines) : Type 0 where
  pub starts : after.start_faults ≡ before.start_faults
  pub to_come : after.to_come ≡ before.to_come
  pub started : after.started ≡ before.started

-- The failure of a closed program was counted.
pub record CountsFault (faults before after : ℕ) : Type 0 where
  pub failed : 0 < faults → Rose before after
