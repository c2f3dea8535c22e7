use Rattle.std.proofs.Common.{refl}
use Rattle.legal_moves.proofs.Throwing.{throws_listed}
use Rattle.legal_moves.proofs.throws.is_on_throws.Goals as goal

pub returns : goal.returns
returns g c =
    let b = g.B.Board.stacks c.args.board.now in
    let rest = c.args.turn.now.rest in
    let thrown = throws_listed b rest rest c.again.result c.args.thrower c.args.piece c.throws.new.out.items c.as_slice.result.now refl c.again.ensures c.requires c.throws.ensures c.as_slice.ensures.value c.args.place in
    (λ e. thrown.0 (c.has_place.ensures.0 e), λ h. c.has_place.ensures.1 (thrown.1 h))
