-- A match for which memory runs out before it begins, one from the game of the input, and one from
-- the opening.
use Rattle.std.proofs.Common.{List, [], String, Global, ap, map, refl}
use Rattle.std.specs.Prelude.{string_bytes}
use Rattle.command_runs.specs.World.{sides, times, world}
use Rattle.match_core.specs.Setups.{setup_plain}
use Rattle.hive_cli.proofs.RunLemmas.{plain_reads, plays_plain, plays_read, starved_plays}
use Rattle.hive_cli.proofs.contests.matched.Goals as goal

pub returns-in_default-clause-run : goal.returns-in_default-clause-run
returns-in_default-clause-run g c timed =
    starved_plays c.args.words.now c.args.setup c.args.from
    (world (sides (g.S.Source.rest c.args.input.now) (g.K.Sink.written c.args.output.now)) (times (g.C.Clock.last c.args.clock.now) (g.C.Clock.readings c.args.clock.now) timed) (g.P.Spawner.engines c.args.spawner.now)) c.requires.words

pub returns-then-from-clause-run : goal.returns-then-from-clause-run
returns-then-from-clause-run g c timed =
    let new = c.play_read_match.new in
    plays_read c.args.words.now c.args.setup c.args.from _ _ _ _ c.play_read_match.result
    (world (sides (g.S.Source.rest c.args.input.now) (g.K.Sink.written c.args.output.now)) (times (g.C.Clock.last c.args.clock.now) (g.C.Clock.readings c.args.clock.now) timed) (g.P.Spawner.engines c.args.spawner.now))
    (world (sides (g.S.Source.rest new.input) (g.K.Sink.written new.output)) (times (g.C.Clock.last new.clock) (g.C.Clock.readings new.clock) timed) (g.P.Spawner.engines new.spawner)) c.if-from.true
    c.in-Ok.ensures.programs (ap (λ (x : List (String Global)). map string_bytes x) c.as_slice-white.ensures.value) (ap (λ (x : List (String Global)). map string_bytes x) c.as_slice-black.ensures.value)
    (c.play_read_match.ensures.run timed)

pub returns-clause-run : goal.returns-clause-run
returns-clause-run g c timed =
    let rest = g.S.Source.rest c.args.input.now in
    let new = c.play_match.new in
    plays_plain c.args.words.now c.args.setup c.args.from _ _ _ _ c.play_match.result
    (world (sides rest (g.K.Sink.written c.args.output.now)) (times (g.C.Clock.last c.args.clock.now) (g.C.Clock.readings c.args.clock.now) timed) (g.P.Spawner.engines c.args.spawner.now))
    (world (sides rest (g.K.Sink.written new.output)) (times (g.C.Clock.last new.clock) (g.C.Clock.readings new.clock) timed) (g.P.Spawner.engines new.spawner)) c.if-from.false
    c.in-Ok.ensures.programs (ap (λ (x : List (String Global)). map string_bytes x) c.as_slice-white.ensures.value) (ap (λ (x : List (String Global)). map string_bytes x) c.as_slice-black.ensures.value)
    (c.play_match.ensures.run rest timed) c.play_match.ensures.started refl

pub returns-clause-reads : goal.returns-clause-reads
returns-clause-reads g c =
    let rest = g.S.Source.rest c.args.input.now in
    let new = c.play_match.new in
    plain_reads (setup_plain c.args.setup) c.play_match.result
    (world (sides rest (g.K.Sink.written c.args.output.now)) (times (g.C.Clock.last c.args.clock.now) (g.C.Clock.readings c.args.clock.now) []) (g.P.Spawner.engines c.args.spawner.now))
    (world (sides rest (g.K.Sink.written new.output)) (times (g.C.Clock.last new.clock) (g.C.Clock.readings new.clock) []) (g.P.Spawner.engines new.spawner)) _ (c.play_match.ensures.run rest [])
