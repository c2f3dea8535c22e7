use Rattle.std.proofs.Common.{rules, ◌<◌, length, arith, ap, sym, ◌∙◌}
use Rattle.cup.specs.Played.{Job}
use Rattle.cup_command.proofs.Steps.{text-step, text-end}
use Rattle.cup_command.proofs.texts.write_jobs.Goals as goal

pub write_job-requires : goal.write_job-requires
write_job-requires g c = λ t e.
    c.requires.setups c.loop-place.place c.index-jobs-place.result c.loop-place-test.true t (sym (ap (λ (j : Job). j.referee) c.index-jobs-place.is) ∙ e)

pub loop-place-preserved : goal.loop-place-preserved
loop-place-preserved g c =
    let inside : c.loop-place.place < length c.args.jobs.now = c.loop-place-test.true in
    let within : c.loop-place.place < length c.args.games.now = omega (arith, c.requires.same, inside) in
    text-step c.args.setup c.args.games.now c.args.jobs.now c.loop-place.place _ c.index-jobs-place.result c.loop-place.out c.write_job.new.out _ within inside (search rules) c.index-jobs-place.is c.loop-place.invariant c.in_ok-write_job.ensures

pub returns : goal.returns
returns g c = text-end c.args.setup c.args.games.now c.args.jobs.now c.loop-place.place c.loop-place.out _ c.loop-place-test.false c.loop-place.invariant
