use Rattle.std.proofs.Common.{◌∙◌, sym, ap}
use Rattle.hive_model.specs.Boards.{is_in_play}
use Rattle.legal_moves.specs.Going.{position_of}
use Rattle.legal_moves.proofs.Throwing.{walk_goals}
use Rattle.legal_moves.proofs.throws.moved_places.Goals as goal

pub add_all_throws-requires-clause-list : goal.add_all_throws-requires-clause-list
add_all_throws-requires-clause-list g c =
    let b = g.B.Board.stacks c.args.board.now in
    let queen = ap (is_in_play b) (sym c.queen.ensures) ∙ sym c.is_in_play.ensures ∙ c.if-not-is_in_play.false in
    walk_goals (position_of b c.args.turn.now) c.requires.board queen c.args.piece c.walks.new.out.items c.walks.ensures
