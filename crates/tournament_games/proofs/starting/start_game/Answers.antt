use Rattle.std.proofs.Common.{[], refl, ap}
use Rattle.std.specs.Option.{option_map}
use Rattle.match_runner.specs.Wires.{wire}
use Rattle.cup_command.proofs.Kept.{on-err}
use Rattle.tournament_games.proofs.Starts.{shuts-start, shuts-links}
use Rattle.tournament_games.proofs.starting.start_game.Goals as goal

pub returns-in-Ok-Some-clause-shut : goal.returns-in-Ok-Some-clause-shut
returns-in-Ok-Some-clause-shut g c =
    let s = c.in-Ok-Some.ensures.started in
    let white = c.in-Ok-Some.white in
    on-err _ _ (shuts-start _ (wire (g.P.Engine.Source.rest white) (g.P.Engine.Sink.written white) (g.P.Engine.Source.read_faults white) (g.P.Engine.Sink.write_faults white)) (g.P.Spawner.engines c.args.spawner.now) (g.P.Spawner.engines c.start_one.new.spawner) (g.P.Spawner.engines c.start_black.new.spawner)
    (ap (option_map (λ l. wire (g.P.Engine.Source.rest l) (g.P.Engine.Sink.written l) (g.P.Engine.Source.read_faults l) (g.P.Engine.Sink.write_faults l))) c.in-Ok-Some.field-0-is) s.starts s.sent)
    c.start_black.result c.start_black.ensures.shut

pub returns-in-Err-clause-shut : goal.returns-in-Err-clause-shut
returns-in-Err-clause-shut g c = shuts-links 0 [] (g.P.Spawner.engines c.args.spawner.now) (g.P.Spawner.engines c.start_one.new.spawner) c.in-Err.ensures.none c.in-Err.ensures.unsent refl
