use Rattle.std.proofs.Common.{◌∙◌, sym, ap}
use Rattle.hive_model.specs.Boards.{is_in_play}
use Rattle.legal_moves.specs.Going.{position_of}
use Rattle.legal_moves.proofs.Throwing.{none_moved, walks_alone}
use Rattle.legal_moves.proofs.throws.count_unthrown.Goals as goal

pub returns-then-not-is_in_play : goal.returns-then-not-is_in_play
returns-then-not-is_in_play g c =
    let b = g.B.Board.stacks c.args.board.now in
    none_moved (position_of b c.args.turn.now) c.args.piece (ap (is_in_play b) (sym c.queen.ensures) ∙ sym c.is_in_play.ensures ∙ c.if-not-is_in_play.true)

pub returns : goal.returns
returns g c =
    let b = g.B.Board.stacks c.args.board.now in
    let queen = ap (is_in_play b) (sym c.queen.ensures) ∙ sym c.is_in_play.ensures ∙ c.if-not-is_in_play.false in
    walks_alone (position_of b c.args.turn.now) c.args.piece c.count_walks.result queen c.requires.unthrown c.count_walks.ensures
