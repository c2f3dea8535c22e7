use Rattle.std.proofs.Common.{◌∙◌, sym, subst}
use Rattle.leaf_bounds.specs.Most.{IsAfar}
use Rattle.board_game.proofs.TellLaws.{lifted_top, lifted_without}
use Rattle.board_game.proofs.reach.goes_afar.Goals as goal

pub new-requires : goal.new-requires
new-requires g c = lifted_top (g.B.Board.stacks c.args.board.now) c.args.piece _ (sym c.spot.ensures.spot ∙ c.in-Some.is) c.requires

pub returns-in-Some : goal.returns-in-Some
returns-in-Some g c afar =
    let same = lifted_without (g.B.Board.stacks c.args.board.now) c.args.piece _ (sym c.spot.ensures.spot ∙ c.in-Some.is) c.requires in
    subst (λ b. IsAfar b c.args.side c.args.place) (c.new.ensures ∙ same) (c.is_afar.ensures afar)
