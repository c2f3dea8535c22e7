use Rattle.std.proofs.Common.{arith, ◌≡◌, ap, subst}
use Rattle.std.proofs.lemmas.Grind.{common_steps}
use Rattle.hive_model.specs.Keys.{KeyParts, spot_in, IsInPlane}
use Rattle.hive_model.proofs.KeyLemmas.{piece_in_plane}
use Rattle.hive_model.proofs.key.Key.spot.Goals as goal

pub returns-clause-within : goal.returns-clause-within
returns-clause-within c =
    let here : c.spot.result ≡ spot_in c.args.self.now c.args.piece = grind (arith, common_steps) in
    let plane = subst IsInPlane (ap (λ (k : KeyParts). k.spots) c.self.view_is) c.self.invariant.plane in
    piece_in_plane c.args.self.now.spots c.args.piece c.spot.result plane here
