use Rattle.std.proofs.Common.{subst}
use Rattle.std.specs.Prelude.{Some}
use Rattle.hive_model.specs.Throws.{IsThrower}
use Rattle.pillbug_throws.specs.Throwing.{ThrowsFrom}
use Rattle.legal_moves.proofs.Walking.{spot_mapped}
use Rattle.legal_moves.proofs.Throwing.{lifted_from}
use Rattle.legal_moves.proofs.throws.find_thrower.Goals as goal

pub mark_beside-requires : goal.mark_beside-requires
mark_beside-requires g c =
    let b = g.B.Board.stacks c.args.board.now in
    let by : IsThrower b c.again.result c.args.thrower c.in-Some.over = subst (ThrowsFrom b c.again.result c.args.thrower) c.in-Some.is c.throwing_spot.ensures in
    spot_mapped b c.args.thrower c.in-Some.over c.lemma_board.ensures by.stands

pub returns-clause-over : goal.returns-clause-over
returns-clause-over g c =
    let b = g.B.Board.stacks c.args.board.now in
    subst (λ r. ThrowsFrom b r c.args.thrower (Some c.in-Some.over)) c.again.ensures (subst (ThrowsFrom b c.again.result c.args.thrower) c.in-Some.is c.throwing_spot.ensures)

pub returns-clause-lifted : goal.returns-clause-lifted
returns-clause-lifted g c x lifts =
    let b = g.B.Board.stacks c.args.board.now in
    let rest = c.args.turn.now.rest in
    let by = subst (λ r. ThrowsFrom b r c.args.thrower (Some c.in-Some.over)) c.again.ensures (subst (ThrowsFrom b c.again.result c.args.thrower) c.in-Some.is c.throwing_spot.ensures) in
    c.mark_beside.ensures.beside rest x ((lifted_from b rest c.args.thrower x c.in-Some.over by).1 lifts)
