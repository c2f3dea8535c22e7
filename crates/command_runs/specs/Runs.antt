-- What is known of the two sides of a run, for any command.
use Rattle.std.specs.Prelude.{◌≡◌, ℕ}
use Rattle.io_edge.specs.Outside.{Aside, HasCause, Told}
use Rattle.command_runs.specs.Input.{Sides}
use Rattle.command_runs.specs.declared.status.Status.{Status}
use Rattle.command_runs.specs.declared.status.Status.TheVariants.{ReadFault, WriteFault}

-- What is known of a source or a sink at one moment: its bytes, and how many of its calls have
-- failed.
abbrev pub side_of : {A : Type 0} → (A → Told) → (A → ℕ) → A → Aside
side_of bytes faults side = record { bytes = bytes side; faults = faults side }

-- A command ran from one state of a source and a sink to another, and ended with this status. The
-- status determines what it read and wrote. If the status is that a read or a write failed, a call
-- of that side has failed.
pub record RunsAs (Run : Status → Sides → Sides → Type 0) (status : Status)
    (source sink source' sink' : Aside) : Type 0 where
  pub run : Run status (record { rest = source.bytes; written = sink.bytes })
      (record { rest = source'.bytes; written = sink'.bytes })
  pub reads : HasCause (status ≡ ReadFault) source.faults source'.faults
  pub writes : HasCause (status ≡ WriteFault) sink.faults sink'.faults
