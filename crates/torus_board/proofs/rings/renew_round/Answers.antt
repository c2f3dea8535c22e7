use Rattle.std.proofs.Common.{subst}
use Rattle.torus_board.specs.Grid.{IsTurned}
use Rattle.hive_model.specs.declared.places.Dir.TheVariants.{E, NE, NW, W, SW, SE}
use Rattle.torus_board.proofs.RingLaws.{written, round, alike}
use Rattle.torus_board.proofs.rings.renew_round.Goals as goal

pub returns-then-not-changes : goal.returns-then-not-changes
returns-then-not-changes c b now high ringed turned =
    alike c.args.side b now c.args.place (subst (IsTurned b now c.args.place) c.if-not-changes.true turned) c.args.rings.now ringed

pub returns : goal.returns
returns c b now high ringed turned =
    let n = c.args.side in
    let p = c.args.place in
    let changed = subst (IsTurned b now p) c.if-not-changes.false turned in
    round n b now p changed c.args.rings.now c.renew.new.rings c.renew-2.new.rings c.renew-3.new.rings c.renew-4.new.rings c.renew-5.new.rings c.renew-6.new.rings ringed
    (written n b now p changed _ _ E _ c.step.ensures (λ m. c.renew.ensures.here b now m high) c.renew.ensures.there)
    (written n b now p changed _ _ NE _ c.step-2.ensures (λ m. c.renew-2.ensures.here b now m high) c.renew-2.ensures.there)
    (written n b now p changed _ _ NW _ c.step-3.ensures (λ m. c.renew-3.ensures.here b now m high) c.renew-3.ensures.there)
    (written n b now p changed _ _ W _ c.step-4.ensures (λ m. c.renew-4.ensures.here b now m high) c.renew-4.ensures.there)
    (written n b now p changed _ _ SW _ c.step-5.ensures (λ m. c.renew-5.ensures.here b now m high) c.renew-5.ensures.there)
    (written n b now p changed _ _ SE _ c.step-6.ensures (λ m. c.renew-6.ensures.here b now m high) c.renew-6.ensures.there)
    c.renew-6.ensures.many
