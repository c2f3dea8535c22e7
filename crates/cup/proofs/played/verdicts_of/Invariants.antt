use Rattle.std.proofs.Common.{◌≡◌, take, map, Some}
use Rattle.cup.specs.Played.{verdict_of}
use Rattle.cup.proofs.played.verdicts_of.Given as goal

abbrev pub invariant-loop-place : goal.invariant-loop-place
invariant-loop-place g l = map (λ j. verdict_of j.referee) (take l.place l.jobs) ≡ map Some l.verdicts.items
