use Rattle.std.proofs.Common.{◌∙◌, None, [], length, ap, subst}
use Rattle.command_runs.specs.World.{sides, times, world}
use Rattle.command_runs.specs.declared.status.Status.TheVariants.{Done}
use Rattle.command_runs.proofs.WrittenLemmas.{behind_none}
use Rattle.tournament_core.specs.declared.plan.Plan.{Plan}
use Rattle.tournament_core.specs.Counts.{IsTallyOf}
use Rattle.tournament_games.specs.Waves.{resumed}
use Rattle.tournament_games.proofs.Runs.{ends-run, games-open, starved-first, tells-run}
use Rattle.tournament_games.proofs.playing.play_headed.Goals as goal

pub returns-in_default-clause-run : goal.returns-in_default-clause-run
returns-in_default-clause-run g c rest times =
    starved-first c.args.tournament.now c.args.played.now (world (sides rest (g.K.Sink.written c.args.output.now)) times (g.P.Spawner.engines c.args.spawner.now)) (behind_none (g.K.Sink.written c.args.output.now))

pub returns-in-Done-clause-run : goal.returns-in-Done-clause-run
returns-in-Done-clause-run g c rest times =
    tells-run c.args.tournament.now c.args.played.now c.in-Ok.tally c.write_games.new.tally c.write_standings.result
    (world (sides rest (g.K.Sink.written c.args.output.now)) times (g.P.Spawner.engines c.args.spawner.now)) (world (sides rest (g.K.Sink.written c.write_games.new.output)) times (g.P.Spawner.engines c.write_games.new.spawner)) (g.K.Sink.written c.write_standings.new.output)
    (c.in-Done.ensures.engines ∙ (c.in-Ok.ensures.engines ∙ ap (λ (p : Plan). p.engines) c.plan-plan.ensures.value))
    (subst (λ (p : Plan). IsTallyOf (resumed p c.args.played.now) c.in-Ok.tally) c.plan-plan.ensures.value c.in-Ok.ensures.noted) (c.in-Done.ensures.run rest times) c.write_standings.ensures.run

pub returns-in-Done-clause-closed : goal.returns-in-Done-clause-closed
returns-in-Done-clause-closed g c =
    games-open c.args.tournament.now (length c.args.played.now) c.in-Ok.tally c.write_games.new.tally Done
    (world (sides None (g.K.Sink.written c.args.output.now)) (times 0 0 []) (g.P.Spawner.engines c.args.spawner.now))
    (world (sides None (g.K.Sink.written c.write_games.new.output)) (times 0 0 []) (g.P.Spawner.engines c.write_games.new.spawner)) (c.in-Done.ensures.run None (times 0 0 []))

pub returns : goal.returns
returns g c = record {
  run = λ rest times.
      ends-run c.args.tournament.now c.args.played.now c.in-Ok.tally c.write_games.new.tally c.write_games.result
      (world (sides rest (g.K.Sink.written c.args.output.now)) times (g.P.Spawner.engines c.args.spawner.now))
      (world (sides rest (g.K.Sink.written c.write_games.new.output)) times (g.P.Spawner.engines c.write_games.new.spawner)) c.in_default-write_games.not-Done (c.write_games.ensures.run rest times);
  closed =
      games-open c.args.tournament.now (length c.args.played.now) c.in-Ok.tally c.write_games.new.tally c.write_games.result
      (world (sides None (g.K.Sink.written c.args.output.now)) (times 0 0 []) (g.P.Spawner.engines c.args.spawner.now))
      (world (sides None (g.K.Sink.written c.write_games.new.output)) (times 0 0 []) (g.P.Spawner.engines c.write_games.new.spawner)) (c.write_games.ensures.run None (times 0 0 []));
  cause = c.write_games.ensures.cause;
}
