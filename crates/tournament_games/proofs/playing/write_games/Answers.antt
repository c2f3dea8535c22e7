use Rattle.std.proofs.Common.{◌≡◌, ◌+◌, ◌≤◌, ◌∙◌, [], refl, ap, sym, subst, arith}
use Rattle.io_edge.specs.Outside.{HasCause}
use Rattle.command_runs.specs.World.{sides, world}
use Rattle.command_runs.specs.declared.status.Status.TheVariants.{WriteFault}
use Rattle.command_runs.proofs.WrittenLemmas.{behind_none}
use Rattle.tournament_games.proofs.Runs.{ends-games, wrote-more, wrote-none}
use Rattle.tournament_games.proofs.playing.write_games.Goals as goal

pub loop-done-init : goal.loop-done-init
loop-done-init g c = record {
  within = c.requires.within;
  so_far = λ rest times. (
    [],
    [],
    omega arith,
    wrote-none c.args.tournament.now c.args.first c.args.tally.now (world (sides rest (g.K.Sink.written c.args.output.now)) times (g.P.Spawner.engines c.args.spawner.now)) (behind_none (g.K.Sink.written c.args.output.now)),
  );
  engines = refl;
  noted = c.requires.noted;
  faults = refl;
}

pub loop-done-preserved : goal.loop-done-preserved
loop-done-preserved g c =
    let so = c.loop-done.invariant in
    let from : c.from-done.result ≡ c.wave_of-count.result = c.from-done.ensures in
    let left = c.wave_of-count.ensures.within in
    let low = c.loop-done-test.true in
    let step : c.loop-done.done + c.wave_of-count.result ≡ c.loop-done.done + c.from-done.result = ap (λ n. c.loop-done.done + n) (sym from) in
    record {
      within = omega (arith, from, left, low);
      so_far = λ rest times.
          let (olds, news, at, wrote) = so.so_far rest times in
          let (os, ns, more, now) = wrote-more c.args.tournament.now c.args.first c.loop-done.done c.wave_of-count.result olds news c.args.tally.now c.loop-done.tally c.write_wave.new.tally
          (world (sides rest (g.K.Sink.written c.args.output.now)) times (g.P.Spawner.engines c.args.spawner.now)) (world (sides rest (g.K.Sink.written c.loop-done.output)) times (g.P.Spawner.engines c.loop-done.spawner)) (world (sides rest (g.K.Sink.written c.write_wave.new.output)) times (g.P.Spawner.engines c.write_wave.new.spawner))
          at wrote (c.in-Done.ensures.run rest times) in (os, ns, sym step ∙ more, now);
      engines = c.in-Done.ensures.engines ∙ so.engines;
      noted = c.in-Done.ensures.count refl ∙ (ap (λ n. n + c.wave_of-count.result) so.noted ∙ step);
      faults = c.in-Done.ensures.cause.same (λ e. cc) ∙ so.faults;
    }

pub returns-in_default : goal.returns-in_default
returns-in_default g c =
    let so = c.loop-done.invariant in
    let few : c.wave_of-count.result ≤ c.args.tournament.now.at_once = omega (arith, c.wave_of-count.ensures.few, c.at_once-at_once.ensures.value) in
    record {
      run = λ rest times.
          let (olds, news, at, wrote) = so.so_far rest times in
          ends-games c.args.tournament.now c.args.first c.loop-done.done c.wave_of-count.result olds news c.args.tally.now c.loop-done.tally c.write_wave.new.tally c.write_wave.result
          (world (sides rest (g.K.Sink.written c.args.output.now)) times (g.P.Spawner.engines c.args.spawner.now)) (world (sides rest (g.K.Sink.written c.loop-done.output)) times (g.P.Spawner.engines c.loop-done.spawner)) (world (sides rest (g.K.Sink.written c.write_wave.new.output)) times (g.P.Spawner.engines c.write_wave.new.spawner))
          at few c.in_default.not-Done wrote (c.write_wave.ensures.run rest times);
      engines = c.write_wave.ensures.engines ∙ so.engines;
      cause = subst (λ n. HasCause (c.write_wave.result ≡ WriteFault) n (g.K.Sink.write_faults c.write_wave.new.output)) so.faults c.write_wave.ensures.cause;
    }

pub returns-clause-run : goal.returns-clause-run
returns-clause-run g c = λ rest times.
    let so = c.loop-done.invariant in
    let (olds, news, at, wrote) = so.so_far rest times in
    let within = so.within in
    let over = c.loop-done-test.false in
    let all = c.requires.all in
    (olds, news, omega (arith, at, within, over, all), wrote)
