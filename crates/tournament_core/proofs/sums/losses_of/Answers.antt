use Rattle.std.proofs.Common.{◌≤◌, ◌+◌, ap, arith, ◌∙◌}
use Rattle.tournament_core.specs.Counts.{count_at}
use Rattle.tournament_core.proofs.Numbers.{sum_left, sum-begin, sum-next, sum-done}
use Rattle.tournament_core.proofs.sums.losses_of.Goals as goal

pub loop-other-init : goal.loop-other-init
loop-other-init c = record {
  sum = sum-begin (λ other. count_at c.args.tally.now.wins other c.args.engine) c.args.tally.now.engines;
  few = omega arith;
}

pub loop-other-preserved : goal.loop-other-preserved
loop-other-preserved c =
    let low : c.loop-other.other ≤ c.args.tally.now.engines = omega (arith, c.loop-other-test.true, c.engines-other-end.ensures.value) in
    record {
      sum =
          ap (λ k. c.loop-other.sum + k + sum_left (λ other. count_at c.args.tally.now.wins other c.args.engine) c.args.tally.now.engines (c.loop-other.other + 1)) c.wins-sum.ensures.value
          ∙ sum-next (λ other. count_at c.args.tally.now.wins other c.args.engine) c.args.tally.now.engines c.loop-other.other c.loop-other.sum _ low c.loop-other.invariant.sum;
      few = omega (arith, c.loop-other.invariant.few, c.wins-sum.ensures.few);
    }

pub returns-clause-sum : goal.returns-clause-sum
returns-clause-sum c =
    sum-done (λ other. count_at c.args.tally.now.wins other c.args.engine) c.args.tally.now.engines c.loop-other.other c.loop-other.sum _
    (omega (arith, c.loop-other-test.false, c.engines-other-end.ensures.value)) c.loop-other.invariant.sum
