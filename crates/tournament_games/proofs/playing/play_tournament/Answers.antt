use Rattle.std.proofs.Common.{◌∙◌}
use Rattle.command_runs.specs.World.{sides, world}
use Rattle.tournament_games.proofs.Heads.{headed, headless}
use Rattle.tournament_games.proofs.playing.play_tournament.Goals as goal

pub returns-in-Done-clause-run : goal.returns-in-Done-clause-run
returns-in-Done-clause-run g c rest times =
    headed c.args.tournament.now c.args.played.now c.play_headed.result rest times (g.P.Spawner.engines c.args.spawner.now) (g.K.Sink.written c.args.output.now) (g.K.Sink.written c.end_with.new.output) c.items.result.now
    (world (sides rest (g.K.Sink.written c.play_headed.new.output)) times (g.P.Spawner.engines c.play_headed.new.spawner)) (c.items.ensures ∙ c.in-Ok.ensures) c.in-Done.ensures.told (c.play_headed.ensures.run rest times)

pub returns-clause-run : goal.returns-clause-run
returns-clause-run g c rest times =
    headless c.args.tournament.now c.args.played.now c.end_with.result rest times (g.P.Spawner.engines c.args.spawner.now) (g.K.Sink.written c.args.output.now) (g.K.Sink.written c.end_with.new.output) c.items.result.now
    (c.items.ensures ∙ c.in-Ok.ensures) c.in_default-end_with.not-Done c.end_with.ensures.told
