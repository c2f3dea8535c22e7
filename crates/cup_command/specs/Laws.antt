-- What follows from the clauses of a run.
use Rattle.std.specs.Prelude.{◌≡◌, ◌⊎◌, List}
use Rattle.io_edge.specs.Outside.{HasCause, Rose}
use Rattle.command_runs.specs.Served.{NoFault}
use Rattle.command_runs.specs.World.{World}
use Rattle.command_runs.specs.declared.status.Status.{Status}
use Rattle.command_runs.specs.declared.status.Status.TheVariants.{Done, WriteFault, SpawnFault, Memory}
use Rattle.match_core.specs.declared.setup.Setup.{Setup}
use Rattle.cup.specs.Engines.{Engine}
use Rattle.cup_command.specs.Cup.{CupRun}

-- If no write to the output failed and no start did, a cup of programs is done, unless memory ran
-- out.
abbrev pub CupsAreDone : Type 0
CupsAreDone =
    (engines : List Engine) (setup : Setup) (status : Status) (before after : World)
    → CupRun engines setup status before after
    → NoFault (status ≡ WriteFault)
    → HasCause (status ≡ SpawnFault) before.engines.start_faults after.engines.start_faults
    → ¬ Rose before.engines.start_faults after.engines.start_faults
    → (status ≡ Done) ⊎ (status ≡ Memory)
