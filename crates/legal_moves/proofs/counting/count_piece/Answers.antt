use Rattle.std.proofs.lemmas.Bool.{iff_false}
use Rattle.hive_model.specs.Placement.{MayPlace}
use Rattle.hive_model.specs.Legal.{LegalPair}
use Rattle.bug_moves.proofs.CountLaws.{same_many}
use Rattle.legal_moves.specs.Going.{IsMoved, position_of}
use Rattle.legal_moves.proofs.Pairing.{brought_pair, moved_pair}
use Rattle.legal_moves.proofs.counting.count_piece.Goals as goal

pub returns-then-may_bring : goal.returns-then-may_bring
returns-then-may_bring g c =
    let b = g.B.Board.stacks c.args.board.now in
    let t = c.args.turn.now in
    let may = c.may_bring.ensures.0 c.if-may_bring.true in
    same_many (MayPlace b t.side) (LegalPair (position_of b t) c.args.piece) c.args.open_places
    (λ q. brought_pair t.game_type b t.side t.number t.rest c.args.piece q may) (c.requires.places (c.args.piece, may))

pub returns : goal.returns
returns g c =
    let b = g.B.Board.stacks c.args.board.now in
    let t = c.args.turn.now in
    let none = iff_false c.may_bring.ensures c.if-may_bring.false in
    same_many (IsMoved (position_of b t) c.args.piece) (LegalPair (position_of b t) c.args.piece) c.count_moved.result
    (λ q. moved_pair t.game_type b t.side t.number t.rest c.args.piece q none) c.count_moved.ensures
