-- A cup for which memory runs out before it begins, and that a cup is played to a depth.
use Rattle.std.proofs.Common.{refl}
use Rattle.cup_command.proofs.Early.{early-none}
use Rattle.hive_cli.proofs.RunLemmas.{asks_engines, cup_depth}
use Rattle.hive_cli.proofs.contests.cupped.Goals as goal

pub play_cup-requires-clause-depth : goal.play_cup-requires-clause-depth
play_cup-requires-clause-depth g c κs within = cup_depth c.args.words.now c.args.setup c.requires.words

pub returns-in_default-clause-run : goal.returns-in_default-clause-run
returns-in_default-clause-run g c rest times =
    let (engines, asks) = asks_engines c.args.words.now c.args.setup c.requires.words in (
      engines,
      asks,
      record { written = refl; starts = early-none engines (g.P.Spawner.engines c.args.spawner.now) },
    )
