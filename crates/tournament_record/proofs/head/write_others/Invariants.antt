use Rattle.std.proofs.Common.{◌≡◌, ◌++◌, take}
use Rattle.std.specs.List.{flat_map}
use Rattle.tournament_record.specs.Heads.{other_engine}
use Rattle.tournament_record.proofs.head.write_others.Given as goal

abbrev pub invariant-loop-program : goal.invariant-loop-program
invariant-loop-program l = l.out ≡ l.fn.out ++ flat_map other_engine (take l.program-index l.programs)
