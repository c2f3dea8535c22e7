use Rattle.std.proofs.Common.{sym, arith}
use Rattle.legal_moves.proofs.Walking.{level_low}
use Rattle.legal_moves.proofs.walks.may_walk.Goals as goal

pub overflow_sub-height : goal.overflow_sub-height
overflow_sub-height g c =
    let b = g.B.Board.stacks c.args.board.now in
    let low = level_low b c.args.piece c.in-Some.spot (sym c.in-Some.ensures.spot) in
    omega (arith, low, c.height-height.ensures)
