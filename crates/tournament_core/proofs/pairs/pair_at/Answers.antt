use Rattle.std.proofs.Common.{◌-◌, ◌<◌, ◌≤◌, length, ap, subst, arith, ◌∙◌}
use Rattle.std.specs.Prelude.{slice_get}
use Rattle.tournament_core.proofs.PairLemmas.{pairs-begin, pair-here, pair-further, length-further}
use Rattle.tournament_core.proofs.pairs.pair_at.Goals as goal

pub loop-first-init : goal.loop-first-init
loop-first-init c = record {
  there = ap (λ ps. slice_get ps c.args.place) (pairs-begin c.args.engines);
  within = subst (λ ps. c.args.place < length ps) (pairs-begin c.args.engines) c.requires.within;
}

pub returns-then-left-others-clause-there : goal.returns-then-left-others-clause-there
returns-then-left-others-clause-there c =
    c.loop-first.invariant.there
    ∙ pair-here c.args.engines c.loop-first.first c.loop-first.left c.loop-first-test.true c.if-left-others.true

pub loop-first-preserved : goal.loop-first-preserved
loop-first-preserved c =
    let low : c.loop-first.first < c.args.engines = c.loop-first-test.true in
    let past : c.args.engines - c.loop-first.first ≤ c.loop-first.left = c.if-left-others.false in
    let long = length-further c.args.engines c.loop-first.first low in
    record {
      there = c.loop-first.invariant.there ∙ pair-further c.args.engines c.loop-first.first c.loop-first.left low past;
      within = omega (arith, long, past, c.loop-first.invariant.within);
    }
