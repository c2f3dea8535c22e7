-- What follows from the clauses of a run.
use Rattle.std.specs.Prelude.{◌≡◌, ◌⊎◌}
use Rattle.io_edge.specs.Outside.{HasCause, Rose}
use Rattle.command_runs.specs.Served.{NoFault}
use Rattle.command_runs.specs.World.{World}
use Rattle.command_runs.specs.declared.status.Status.{Status}
use Rattle.command_runs.specs.declared.status.Status.TheVariants.{Done, WriteFault, SpawnFault, Memory}
use Rattle.match_core.specs.Setups.{FullSetup}
use Rattle.match_command.specs.Match.{MatchRun}

-- If no write to the output failed and no start did, a match of two programs is done, unless memory
-- ran out.
abbrev pub MatchesAreDone : Type 0
MatchesAreDone =
    (setup : FullSetup) (status : Status) (before after : World)
    → MatchRun setup status before after
    → NoFault (status ≡ WriteFault)
    → HasCause (status ≡ SpawnFault) before.engines.start_faults after.engines.start_faults
    → ¬ Rose before.engines.start_faults after.engines.start_faults
    → (status ≡ Done) ⊎ (status ≡ Memory)
