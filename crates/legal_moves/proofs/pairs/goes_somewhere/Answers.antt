use Rattle.legal_moves.specs.Going.{position_of}
use Rattle.legal_moves.proofs.Pairing.{some_pair}
use Rattle.legal_moves.proofs.pairs.goes_somewhere.Goals as goal

pub returns : goal.returns
returns g c =
    let b = g.B.Board.stacks c.args.board.now in
    some_pair (position_of b c.args.turn.now) c.args.piece c.piece_places.new.out.items c.len.result c.len.ensures.value c.piece_places.ensures
