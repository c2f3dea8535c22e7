use Rattle.std.proofs.Common.{rules, ◌≡◌, ◌≤◌, ◌+◌, ◌*◌, ◌^◌, ap, arith, ◌∙◌}
use Rattle.std.proofs.lemmas.Nat.{mul-le}
use Rattle.tournament_core.specs.Ends.{points}
use Rattle.tournament_core.specs.Counts.{count_at}
use Rattle.tournament_core.proofs.Numbers.{sum_left, sum-begin, sum-next, sum-done}
use Rattle.tournament_core.proofs.Tallies.{tally-beaten}
use Rattle.tournament_core.proofs.sums.beaten_of.Goals as goal

pub loop-other-init : goal.loop-other-init
loop-other-init c = record {
  sum = λ games is. sum-begin (λ other. count_at c.args.tally.now.wins c.args.engine other * points games other) c.args.tally.now.engines;
  few = omega arith;
}

pub loop-other-preserved : goal.loop-other-preserved
loop-other-preserved c =
    let low : c.loop-other.other ≤ c.args.tally.now.engines = omega (arith, c.loop-other-test.true, c.engines-other-end.ensures.value) in
    let first : c.from.result ≡ c.wins-wins.result = search rules in
    let second : c.from-in-loop-other.result ≡ c.points_of.result = search rules in
    let product : c.wins-wins.result * c.points_of.result ≤ 2 ^ 42 * 2 ^ 51 = mul-le c.wins-wins.result c.points_of.result (2 ^ 42) (2 ^ 51) c.wins-wins.ensures.few c.points_of.ensures.few in
    let same : c.from.result * c.from-in-loop-other.result ≡ c.wins-wins.result * c.points_of.result = (λ i. first i * second i) in
    record {
      sum = λ games is.
          let wins = c.wins-wins.ensures.value in
          let points_are = c.points_of.ensures.points games is in
          ap (λ k. c.loop-other.sum + k + sum_left (λ other. count_at c.args.tally.now.wins c.args.engine other * points games other) c.args.tally.now.engines (c.loop-other.other + 1))
          (same ∙ (λ i. wins i * points_are i))
          ∙ sum-next (λ other. count_at c.args.tally.now.wins c.args.engine other * points games other) c.args.tally.now.engines c.loop-other.other c.loop-other.sum _ low
          (c.loop-other.invariant.sum games is);
      few = omega (arith, c.loop-other.invariant.few, product, same);
    }

pub returns : goal.returns
returns c = λ games is.
    sum-done (λ other. count_at c.args.tally.now.wins c.args.engine other * points games other) c.args.tally.now.engines c.loop-other.other c.loop-other.sum _
    (omega (arith, c.loop-other-test.false, c.engines-other-end.ensures.value)) (c.loop-other.invariant.sum games is)
    ∙ tally-beaten games c.args.tally.now c.args.engine is c.requires.engine
