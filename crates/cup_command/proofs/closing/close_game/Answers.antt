use Rattle.std.proofs.Common.{ap, refl, subst}
use Rattle.io_edge.specs.Outside.{Collects}
use Rattle.match_runner.specs.Wires.{Wire}
use Rattle.cup_command.proofs.closing.close_game.Goals as goal

pub returns-clause-sent : goal.returns-clause-sent
returns-clause-sent g c =
    let old = (g.P.Spawner.engines c.args.spawner.now).sent in
    let mid = (g.P.Spawner.engines c.close.new.self).sent in
    let new = (g.P.Spawner.engines c.close-2.new.self).sent in (
      mid,
      subst (λ told. Collects old mid told) (ap (λ (s : Wire). s.written) c.links-white.ensures.white) c.close.ensures.sent,
      (new, subst (λ told. Collects mid new told) (ap (λ (s : Wire). s.written) c.links-white.ensures.black) c.close-2.ensures.sent, refl),
    )
