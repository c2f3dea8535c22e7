use Rattle.std.proofs.Common.{inl, inr, sym, subst}
use Rattle.pillbug_throws.specs.Throwing.{ThrowsFrom}
use Rattle.legal_moves.specs.Going.{CanLift}
use Rattle.legal_moves.proofs.throws.find_throwers.Goals as goal

pub returns : goal.returns
returns g c =
    let b = g.B.Board.stacks c.args.board.now in
    let rest = c.args.turn.now.rest in
    record {
      pillbug = subst (λ y. ThrowsFrom b rest y c.find_thrower-pillbug.result) c.pillbug_of.ensures c.find_thrower-pillbug.ensures.over;
      mosquito = subst (λ y. ThrowsFrom b rest y c.find_thrower-mosquito.result) c.mosquito_of.ensures c.find_thrower-mosquito.ensures.over;
      lifted = λ x h. elim h [
        | inl one ↦ c.find_thrower-mosquito.ensures.kept x (c.find_thrower-pillbug.ensures.lifted x (subst (λ y. CanLift b rest y x) (sym c.pillbug_of.ensures) one))
        | inr two ↦ c.find_thrower-mosquito.ensures.lifted x (subst (λ y. CanLift b rest y x) (sym c.mosquito_of.ensures) two)
      ];
    }
