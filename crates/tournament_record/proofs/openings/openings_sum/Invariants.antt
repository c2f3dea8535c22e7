use Rattle.std.proofs.Common.{take}
use Rattle.std.specs.List.{flat_map}
use Rattle.sha2.specs.Hashers.{Holds256}
use Rattle.tournament_record.specs.Openings.{opening_line}
use Rattle.tournament_record.proofs.openings.openings_sum.Given as goal

abbrev pub invariant-loop-place : goal.invariant-loop-place
invariant-loop-place g l = Holds256 l.hasher (flat_map (opening_line l.game_type) (take l.place l.openings))
