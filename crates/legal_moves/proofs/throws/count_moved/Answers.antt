use Rattle.std.proofs.Common.{sym, arith}
use Rattle.legal_moves.specs.Going.{position_of}
use Rattle.legal_moves.proofs.Throwing.{no_throw, not_beside}
use Rattle.legal_moves.proofs.throws.count_moved.Goals as goal

pub count_unthrown-requires-clause-unthrown : goal.count_unthrown-requires-clause-unthrown
count_unthrown-requires-clause-unthrown g c =
    let p = position_of (g.B.Board.stacks c.args.board.now) c.args.turn.now in
    no_throw p c.args.piece (not_beside p c.args.throwers.now c.args.piece c.requires.throwers c.is_set.result c.is_set.ensures c.if-not-is_set.true)

pub returns : goal.returns
returns g c = record {
  places = c.moved_places.new.out.items;
  all = c.moved_places.ensures;
  few = (let v = c.len.ensures.value in let f = c.len.ensures.fits in omega (arith, v, f));
  many = sym c.len.ensures.value;
}
