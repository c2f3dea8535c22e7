-- What is written to standard error.
use Rattle.std.specs.Prelude.{ℕ, List, codes, None, Some}
use Rattle.std.specs.declared.option.Option.{Option}
use Rattle.command_runs.specs.declared.status.Status.{Status}
use Rattle.command_runs.specs.declared.status.Status.TheVariants.{Done, Refused, Usage, ReadFault, WriteFault, SpawnFault, BadInput, Memory, InputFull}

-- The line that says why a run with this status could not be done, or `None` if it was done. If a
-- line or a text was refused, or the input was of the wrong form, the output says so.
abbrev pub complaint : Status → Option (List ℕ)
complaint Done = None
complaint Refused = None
complaint Usage = Some (codes "hive: wrong command line")
complaint ReadFault = Some (codes "hive: input failed")
complaint WriteFault = Some (codes "hive: output failed")
complaint SpawnFault = Some (codes "hive: an engine could not be started")
complaint BadInput = None
complaint Memory = Some (codes "hive: out of memory")
complaint InputFull = Some (codes "hive: input too long")
