use Rattle.std.proofs.Common.{◌≡◌, ◌≤◌, ◌+◌, ◌*◌, ◌^◌, List}
use Rattle.std.specs.List.{sum_by}
use Rattle.tournament_core.specs.Schedules.{numbers}
use Rattle.tournament_core.specs.Ends.{PlayedFixture, points}
use Rattle.tournament_core.specs.Counts.{IsTallyOf, count_at}
use Rattle.tournament_core.proofs.Numbers.{sum_left}
use Rattle.tournament_core.proofs.sums.beaten_of.Given as goal

abbrev pub invariant-loop-other : goal.invariant-loop-other
invariant-loop-other l = record {
  sum :
      (games : List PlayedFixture) → IsTallyOf games l.tally →
      l.sum + sum_left (λ other. count_at l.tally.wins l.engine other * points games other) l.tally.engines l.other
      ≡ sum_by (λ other. count_at l.tally.wins l.engine other * points games other) (numbers l.tally.engines);
  few : l.sum + 2 ^ 93 ≤ 2 ^ 93 * l.other;
}
