-- The run does what the words ask for: a match, a cup, a tournament, an audit, or a command that
-- starts no program.
use Rattle.std.proofs.Common.{[], arith, refl}
use Rattle.command_runs.specs.World.{sides, times as these_times, world}
use Rattle.hive_cli.proofs.RunLemmas.{cups_read_nothing, is_alone, never_spawns}
use Rattle.hive_cli.proofs.run_command.Goals as goal

pub returns-in_default : goal.returns-in_default
returns-in_default g c =
    let does = c.run_alone.ensures.does (g.P.Spawner.engines c.args.spawner.now) in
    let alone = is_alone c.args.asked c.in_default.not-Match c.in_default.not-Cup c.in_default.not-Audit c.in_default.not-Tournament in
    record {
      does = does;
      reads = c.run_alone.ensures.reads;
      writes = c.run_alone.ensures.writes;
      starts = λ unstarted. record {
        later = omega arith;
        rose = λ e. absurd (never_spawns c.args.words.now c.args.asked c.run_alone.result.status _ _ alone does e);
        same = λ n. refl;
      };
      clock = c.run_alone.ensures.clock;
      spawner = λ n. refl;
    }

pub returns-in-Cup-clause-reads : goal.returns-in-Cup-clause-reads
returns-in-Cup-clause-reads g c =
    let rest = g.S.Source.rest c.args.input.now in
    let none = these_times 0 0 [] in
    let (engines, asks, run) = c.cupped.ensures.run rest none in
    record {
      later = omega arith;
      rose = λ e. absurd (cups_read_nothing engines c.in-Cup.setup c.cupped.result (world (sides rest (g.K.Sink.written c.args.output.now)) none (g.P.Spawner.engines c.args.spawner.now)) (world (sides rest (g.K.Sink.written c.cupped.new.output)) none (g.P.Spawner.engines c.cupped.new.spawner)) run e);
      same = λ n. refl;
    }
