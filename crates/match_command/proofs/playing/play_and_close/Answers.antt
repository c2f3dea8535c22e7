use Rattle.command_runs.specs.World.{times}
use Rattle.match_core.specs.Setups.{FullSetup, setup_from}
use Rattle.match_runner.specs.Wires.{Watch, Wire, watch, wire}
use Rattle.match_command.proofs.Closing.{played_over, told_match}
use Rattle.match_command.proofs.playing.play_and_close.Goals as goal

pub returns-in-Ok-clause-played : goal.returns-in-Ok-clause-played
returns-in-Ok-clause-played g c timed =
    let w0 : Wire = wire (g.P.Engine.Source.rest c.args.white) (g.P.Engine.Sink.written c.args.white) (g.P.Engine.Source.read_faults c.args.white) (g.P.Engine.Sink.write_faults c.args.white) in
    let b0 : Wire = wire (g.P.Engine.Source.rest c.args.black) (g.P.Engine.Sink.written c.args.black) (g.P.Engine.Source.read_faults c.args.black) (g.P.Engine.Sink.write_faults c.args.black) in
    let ran = c.run_match_from-referee.new in
    let w : Wire = wire (g.P.Engine.Source.rest ran.white) (g.P.Engine.Sink.written ran.white) (g.P.Engine.Source.read_faults ran.white) (g.P.Engine.Sink.write_faults ran.white) in
    let b : Wire = wire (g.P.Engine.Source.rest ran.black) (g.P.Engine.Sink.written ran.black) (g.P.Engine.Source.read_faults ran.black) (g.P.Engine.Sink.write_faults ran.black) in
    let r0 : Watch = watch (g.C.Clock.last c.args.clock.now) (g.C.Clock.readings c.args.clock.now) in
    let r : Watch = watch (g.C.Clock.last ran.clock) (g.C.Clock.readings ran.clock) in
    let old = g.P.Spawner.engines c.args.spawner.now in
    let new = g.P.Spawner.engines c.close_both.new.spawner in
    let full : FullSetup = setup_from c.args.setup (g.G.Game.history c.args.game).made in
    told_match c.tell_match.result full c.in-Ok.referee w0 b0 (times r0.last r0.readings timed) (times r.last r.readings timed) old new c.tell_match.ensures
    (played_over full c.in-Ok.referee w0 w b0 b r0 r timed old new c.requires.white_fresh c.requires.black_fresh c.in-Ok.ensures.ran c.close_both.ensures.failed c.close_both.ensures.sent)
