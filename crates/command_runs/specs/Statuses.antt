-- How a run ends.
use Rattle.std.specs.Prelude.{ℕ}
use Rattle.command_runs.specs.declared.status.Status.{Status}
use Rattle.command_runs.specs.declared.status.Status.TheVariants.{Done, Refused, Usage, ReadFault, WriteFault, SpawnFault, BadInput, Memory, InputFull}

-- the number of a status, which is the exit code of the program
abbrev pub number : Status → ℕ
number Done = 0
number Refused = 1
number Usage = 2
number ReadFault = 3
number WriteFault = 4
number SpawnFault = 5
number BadInput = 6
number Memory = 7
number InputFull = 8
