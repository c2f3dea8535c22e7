-- A tournament reads nothing and starts no program if memory runs out before it begins.
use Rattle.command_runs.specs.World.{sides, world}
use Rattle.hive_cli.proofs.RunLemmas.{starved_tournament}
use Rattle.hive_cli.proofs.contests.contested.Goals as goal

pub returns-in_default-clause-run : goal.returns-in_default-clause-run
returns-in_default-clause-run g c times =
    starved_tournament c.args.words.now c.args.format.setup c.args.format.rounds c.args.format.gauntlet c.args.format.at_once c.args.format.resume
    (world (sides (g.S.Source.rest c.args.input.now) (g.K.Sink.written c.args.output.now)) times (g.P.Spawner.engines c.args.spawner.now)) c.requires.words

pub returns-clause-run : goal.returns-clause-run
returns-clause-run g c times = (c.in-Ok.engines.items, c.in-Ok.ensures.engines, c.play_read_tournament.ensures.run times)
