use Rattle.std.proofs.Common.{arith}
use Rattle.std.specs.List.{zip}
use Rattle.std.proofs.lemmas.Slice.Zip.{length-zip}
use Rattle.hive_model.proofs.GetLemmas.{get_exists}
use Rattle.cup.specs.Cup.{gets}
use Rattle.cup.proofs.Sums.{zip-at, sum-step, sum-end}
use Rattle.cup.proofs.points.all_points.Goals as goal

pub loop-i-preserved : goal.loop-i-preserved
loop-i-preserved c =
    let turn = c.loop-i.invariant in
    let game = get_exists c.args.games.now c.loop-i.i c.loop-i-test.true in
    let verdict = get_exists c.args.verdicts.now c.loop-i.i (omega (arith, c.requires.same, c.loop-i-test.true)) in
    let both = zip-at c.args.games.now c.args.verdicts.now c.loop-i.i game.0 verdict.0 game.1 verdict.1 in
    let step = sum-step (gets c.args.engine) (zip c.args.games.now c.args.verdicts.now) c.loop-i.i c.loop-i.points _ (game.0, verdict.0) both turn.sum in
    let got = c.gets_at-points.ensures.points game.0 verdict.0 game.1 verdict.1 in
    record {
      sum = omega (arith, step, got);
      few = omega (arith, turn.few, c.gets_at-points.ensures.few);
    }

pub returns : goal.returns
returns c =
    let many = length-zip c.args.games.now c.args.verdicts.now in
    sum-end (gets c.args.engine) (zip c.args.games.now c.args.verdicts.now) c.loop-i.i c.loop-i.points _
    (omega (arith, many, c.requires.same, c.loop-i-test.false)) c.loop-i.invariant.sum
