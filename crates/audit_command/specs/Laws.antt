-- What follows from the clauses of an audit.
use Rattle.std.specs.Prelude.{◌≡◌, ◌⊎◌, ℕ, ◌<◌, List, ◌∷◌, length, Some}
use Rattle.io_edge.specs.Outside.{HasCause, Rose}
use Rattle.io_edge.specs.Lines.{lines}
use Rattle.line_feed.specs.Feed.{input_limit}
use Rattle.command_runs.specs.Served.{NoFault}
use Rattle.command_runs.specs.World.{World}
use Rattle.command_runs.specs.declared.status.Status.{Status}
use Rattle.command_runs.specs.declared.status.Status.TheVariants.{Done, Refused, WriteFault, SpawnFault, Memory}
use Rattle.audit_core.specs.declared.plan.AuditPlan.{AuditPlan}
use Rattle.audit_core.specs.Laws.{AreRight}
use Rattle.audit_core.specs.AuditState.{start}
use Rattle.audit_command.specs.Audit.{AuditRun}

-- The streams and the starter of programs served an audit that ends with this status. No write to
-- the output failed and no start did. The program says these bytes, and they are below the limit of
-- what is read.
pub record IsServed (status : Status) (before after : World) (bytes : List ℕ) : Type 0 where
  pub others : List (List ℕ)
  pub writes : NoFault (status ≡ WriteFault)
  pub started :
      HasCause (status ≡ SpawnFault) before.engines.start_faults after.engines.start_faults
  pub steady : ¬ Rose before.engines.start_faults after.engines.start_faults
  pub says : before.engines.to_come ≡ Some (bytes ∷ others)
  pub below : length bytes < input_limit

-- If the streams and the starter of programs served it, an audit ends with no finding or with some,
-- or because memory ran out.
abbrev pub AuditsAreDone : Type 0
AuditsAreDone =
    (plan : AuditPlan) (status : Status) (before after : World)
    → AuditRun plan status before after
    → (bytes : List ℕ) → IsServed status before after bytes
    → (status ≡ Done) ⊎ ((status ≡ Refused) ⊎ (status ≡ Memory))

-- If also no failure of the program was counted, there is no finding exactly if each reply is
-- right.
abbrev pub AuditsAreRight : Type 0
AuditsAreRight =
    (plan : AuditPlan) (status : Status) (before after : World)
    → AuditRun plan status before after
    → (bytes : List ℕ) → IsServed status before after bytes
    → ¬ Rose before.engines.engine_faults after.engines.engine_faults
    → (status ≡ Done → AreRight (start plan) (lines bytes))
    × (status ≡ Refused → ¬ AreRight (start plan) (lines bytes))
