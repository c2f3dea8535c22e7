use Rattle.std.proofs.Common.{◌≡◌, ◌∙◌, sym, ap, true, false}
use Rattle.hive_model.specs.Pieces.{colour_of, is_colour}
use Rattle.hive_model.specs.Legal.{Walk}
use Rattle.hive_model.proofs.PieceLaws.{same_colour, from_same_colour}
use Rattle.bug_moves.proofs.CountLaws.{none_many, same_many}
use Rattle.legal_moves.specs.Going.{Goes, position_of}
use Rattle.legal_moves.proofs.Walking.{goes_walk, walk_goes, walk_may}
use Rattle.legal_moves.proofs.walks.count_walks.Goals as goal

pub returns-then-not-is : goal.returns-then-not-is
returns-then-not-is g c =
    let b = g.B.Board.stacks c.args.board.now in
    let p = position_of b c.args.turn.now in
    let other = ap (λ k. is_colour k c.args.turn.now.side) (sym c.colour.ensures) ∙ sym c.is.ensures ∙ c.if-not-is.true in
    none_many (Walk p c.args.piece) (λ q h. let wrong : true ≡ false = sym (from_same_colour (colour_of c.args.piece) c.args.turn.now.side h.own) ∙ other in cc)

pub returns-then-not-may_walk : goal.returns-then-not-may_walk
returns-then-not-may_walk g c =
    let b = g.B.Board.stacks c.args.board.now in
    let p = position_of b c.args.turn.now in
    none_many (Walk p c.args.piece) (λ q h. let wrong : true ≡ false = sym (c.may_walk.ensures.1 (walk_may p c.args.piece q h)) ∙ c.if-not-may_walk.true in cc)

pub returns : goal.returns
returns g c =
    let b = g.B.Board.stacks c.args.board.now in
    let p = position_of b c.args.turn.now in
    let own = same_colour (colour_of c.args.piece) c.args.turn.now.side (ap (λ k. is_colour k c.args.turn.now.side) (sym c.colour.ensures) ∙ sym c.is.ensures ∙ c.if-not-is.false) in
    let may = c.may_walk.ensures.0 c.if-not-may_walk.false in
    same_many (Goes b c.args.piece) (Walk p c.args.piece) c.count_goes.result (λ q. (goes_walk p c.args.piece q own may, walk_goes p c.args.piece q)) c.count_goes.ensures
