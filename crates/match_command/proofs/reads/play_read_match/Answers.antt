-- A match is played from the game that was read, and none if no game was read.
use Rattle.std.proofs.Common.{◌∙◌, List, [], ap, arith, inr, map, refl, string_bytes}
use Rattle.hive_model.specs.declared.best.Timed.{Timed}
use Rattle.command_runs.specs.World.{World, once_read, sides, times, world}
use Rattle.match_command.specs.Reads.{typed}
use Rattle.match_command.proofs.Reading.{begun_from, none_left, none_reads, none_starts, read_well}
use Rattle.match_command.proofs.reads.play_read_match.Goals as goal

pub returns-in-Ok : goal.returns-in-Ok
returns-in-Ok g c =
    let same = c.typed-setup.ensures ∙ ap (typed c.args.setup) c.game_type.ensures in
    let new = c.play_match_from.new in
    let rest = g.S.Source.rest c.read_one_game.new.input in
    let before : List Timed → World = λ timed.
    world (sides (g.S.Source.rest c.args.input.now) (g.K.Sink.written c.args.output.now)) (times (g.C.Clock.last c.args.clock.now) (g.C.Clock.readings c.args.clock.now) timed) (g.P.Spawner.engines c.args.spawner.now) in
    let after : List Timed → World = λ timed. world (sides rest (g.K.Sink.written new.output)) (times (g.C.Clock.last new.clock) (g.C.Clock.readings new.clock) timed) (g.P.Spawner.engines new.spawner) in
    record {
      run = λ timed.
          begun_from c.args.setup c.typed-setup.result (map string_bytes c.args.white.now) (map string_bytes c.args.black.now) c.play_match_from.result (g.G.Game.history c.in-Ok.game)
          (before timed) (after timed) same c.in-Ok.ensures.game
          (c.play_match_from.ensures.run rest timed) c.play_match_from.ensures.started;
      ends = c.play_match_from.ensures.ends;
      reads = read_well _ c.play_match_from.result (once_read rest (before [])) (after []) _ _ (c.play_match_from.ensures.run rest []) c.in-Ok.ensures.cause (λ e. cc);
      later = c.play_match_from.ensures.later;
    }

pub returns-in-Err : goal.returns-in-Err
returns-in-Err g c = record {
  run = λ timed.
      inr (
        c.in-Err.none,
        record {
          shown = c.in-Err.ensures.none;
          told = c.tell_none.ensures.told;
          untimed = record { last = refl; readings = refl; timed = refl };
          unstarted = refl;
        },
      );
  ends = record {
    closed = none_left (g.P.Spawner.engines c.args.spawner.now);
    writes = c.tell_none.ensures.cause;
    starts = none_starts c.in-Err.none c.tell_none.result _ _ _ c.tell_none.ensures.told;
  };
  reads = none_reads c.in-Err.none c.tell_none.result _ _ _ _ c.tell_none.ensures.told c.in-Err.ensures.cause;
  later = omega arith;
}
