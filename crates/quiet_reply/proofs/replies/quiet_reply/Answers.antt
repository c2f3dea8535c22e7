use Rattle.std.proofs.Common.{◌≡◌, false, pos, ◌+ℤ◌, ◌≤ℤ◌}
use Rattle.hive_model.specs.Legal.{is_over}
use Rattle.hive_model.specs.Minimax.{value}
use Rattle.quiet_reply.specs.Quiet.{IsQuiet, rest_weight}
use Rattle.legal_moves.specs.Going.{position_of}
use Rattle.quiet_reply.proofs.Quiet.{quiet_replies}
use Rattle.quiet_reply.proofs.Tests.{going_on, reply_of, some_then}
use Rattle.quiet_reply.proofs.replies.quiet_reply.Goals as goal

pub returns : goal.returns
returns g c =
    let b = g.B.Board.stacks c.args.board.now in
    let p = position_of b c.args.turn.now in
    let going : is_over p ≡ false = going_on p (c.is_open.ensures c.if-not-is_open.false) (c.is_open-2.ensures c.if-not-is_open-2.false) in
    some_then (IsQuiet b c.args.turn.now.side) (value p 0 ≤ℤ (value p 1 +ℤ pos (rest_weight c.args.turn.now.rest))) c.find_quiet.result
    (λ q quiet. quiet_replies p c.lemma_board.ensures going (reply_of p c.in_ok-piece.piece q c.in_ok-piece.ensures.brought c.in_ok-piece.ensures.no_queen quiet)) c.find_quiet.ensures
