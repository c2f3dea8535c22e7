-- How a command that starts programs and writes a text ends.
use Rattle.std.specs.Prelude.{◌≡◌, ℕ}
use Rattle.io_edge.specs.Outside.{HasCause}
use Rattle.io_edge.specs.Starts.{Engines}
use Rattle.command_runs.specs.declared.status.Status.{Status}
use Rattle.command_runs.specs.declared.status.Status.TheVariants.{WriteFault, SpawnFault}
use Rattle.match_command.specs.Match.{NoneIsOpen}

-- A run that starts programs ended with this status. No program is left open. `WriteFault` means
-- that a write failed and was counted, and `SpawnFault` the same of a start.
pub record EndsRun
    (status : Status) (writes_before writes_after : ℕ) (before after : Engines) : Type 0 where
  pub closed : NoneIsOpen before after
  pub writes : HasCause (status ≡ WriteFault) writes_before writes_after
  pub starts : HasCause (status ≡ SpawnFault) before.start_faults after.start_faults
