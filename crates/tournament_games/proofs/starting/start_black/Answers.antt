use Rattle.std.proofs.Common.{◌∷◌, [], ◌∙◌, refl, subst}
use Rattle.io_edge.specs.Outside.{Collects}
use Rattle.match_runner.specs.Wires.{Wire, wire}
use Rattle.tournament_games.proofs.Starts.{shuts-links}
use Rattle.tournament_games.proofs.starting.start_black.Goals as goal

pub returns-in-Err-clause-shut : goal.returns-in-Err-clause-shut
returns-in-Err-clause-shut g c =
    let w : Wire = wire (g.P.Engine.Source.rest c.args.white) (g.P.Engine.Sink.written c.args.white) (g.P.Engine.Source.read_faults c.args.white) (g.P.Engine.Sink.write_faults c.args.white) in
    let old = g.P.Spawner.engines c.args.spawner.now in
    let new = g.P.Spawner.engines c.close.new.self in
    shuts-links 1 (w ∷ []) old new (c.close.ensures.others.1 ∙ c.in-Err.ensures.none)
    (new.sent, subst (λ told. Collects told new.sent w.written) c.in-Err.ensures.unsent c.close.ensures.sent, refl)
    refl
