use Rattle.std.proofs.Common.{◌≡◌, take}
use Rattle.std.specs.List.{sum_by}
use Rattle.count_share.specs.Shares.{Share}
use Rattle.count_share.proofs.team.total_of.Given as goal

abbrev pub invariant-loop-i : goal.invariant-loop-i
invariant-loop-i g l = l.total ≡ sum_by (λ (s : Share). s.total) (take l.i l.workers)
