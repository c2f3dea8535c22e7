use Rattle.std.proofs.Common.{◌≡◌, ◌≤◌, ◌+◌, ◌*◌, ◌^◌}
use Rattle.std.specs.List.{sum_by}
use Rattle.tournament_core.specs.Schedules.{numbers}
use Rattle.tournament_core.specs.Counts.{count_at}
use Rattle.tournament_core.proofs.Numbers.{sum_left}
use Rattle.tournament_core.proofs.sums.wins_of.Given as goal

abbrev pub invariant-loop-other : goal.invariant-loop-other
invariant-loop-other l = record {
  sum : l.sum + sum_left (λ other. count_at l.tally.wins l.engine other) l.tally.engines l.other ≡ sum_by (λ other. count_at l.tally.wins l.engine other) (numbers l.tally.engines);
  few : l.sum + 2 ^ 42 ≤ 2 ^ 42 * l.other;
}
