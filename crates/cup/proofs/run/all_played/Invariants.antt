use Rattle.std.proofs.Common.{◌≢◌, None}
use Rattle.std.specs.List.{AllWithin}
use Rattle.cup.proofs.run.all_played.Given as goal

abbrev pub invariant-loop-place : goal.invariant-loop-place
invariant-loop-place g l = AllWithin (λ j. j.referee ≢ None) l.jobs 0 l.place
