use Rattle.std.proofs.Common.{◌∙◌, sym, ap}
use Rattle.hive_model.specs.Pieces.{colour_of, is_colour}
use Rattle.hive_model.proofs.PieceLaws.{same_colour}
use Rattle.legal_moves.specs.Going.{position_of}
use Rattle.legal_moves.proofs.Walking.{goes_walk, walk_goes}
use Rattle.legal_moves.proofs.walks.is_walk.Goals as goal

pub returns-then-may_walk : goal.returns-then-may_walk
returns-then-may_walk g c =
    let b = g.B.Board.stacks c.args.board.now in
    let p = position_of b c.args.turn.now in
    let own = same_colour (colour_of c.args.piece) c.args.turn.now.side (ap (λ k. is_colour k c.args.turn.now.side) (sym c.colour.ensures) ∙ sym c.is.ensures ∙ c.if-is.true) in
    let may = c.may_walk.ensures.0 c.if-may_walk.true in
    (λ e. goes_walk p c.args.piece c.args.place own may (c.goes_to.ensures.0 e), λ h. c.goes_to.ensures.1 (walk_goes p c.args.piece c.args.place h))
