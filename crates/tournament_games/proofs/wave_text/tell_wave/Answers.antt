use Rattle.std.proofs.Common.{◌^◌, length}
use Rattle.tournament_games.proofs.Steps.{Lined, fixture-at, lined-all, lined-more, lined-none, room-at}
use Rattle.tournament_games.proofs.wave_text.tell_wave.Goals as goal

pub loop-place-init : goal.loop-place-init
loop-place-init g c = lined-none c.args.jobs.now c.new-text.result c.args.tally.now c.new-text.ensures

pub loop-place-preserved : goal.loop-place-preserved
loop-place-preserved g c =
    let told = c.in_ok-tell_job.ensures in
    lined-more c.args.jobs.now c.loop-place.place c.index-jobs-place.result c.loop-place.text c.tell_job.new.out c.args.tally.now c.loop-place.tally c.tell_job.new.tally
    c.loop-place-test.true c.index-jobs-place.is told.told told.text told.engines told.count told.noted c.loop-place.invariant

pub tell_job-requires : goal.tell_job-requires
tell_job-requires g c = record {
  fixture =
      fixture-at c.args.jobs.now c.loop-place.place c.index-jobs-place.result c.loop-place.text c.args.tally.now c.loop-place.tally c.requires.fixtures c.loop-place-test.true c.index-jobs-place.is c.loop-place.invariant;
  room =
      room-at c.args.jobs.now c.loop-place.place (2 ^ 42) c.loop-place.text c.args.tally.now c.loop-place.tally c.requires.room c.loop-place-test.true c.loop-place.invariant;
}

pub returns : goal.returns
returns g c =
    let all : Lined c.args.jobs.now (length c.args.jobs.now) c.loop-place.text c.args.tally.now c.loop-place.tally =
    lined-all c.args.jobs.now c.loop-place.place c.loop-place.text c.args.tally.now c.loop-place.tally c.loop-place-test.false c.loop-place.auto.place-end c.loop-place.invariant in
    record {
      told = all.told;
      text = all.lines;
      engines = all.engines;
      count = all.games;
      noted = all.noted;
    }
