use Rattle.std.proofs.Common.{sym}
use Rattle.hive_model.proofs.BoardLemmas.{spot_within}
use Rattle.hive_model.proofs.PlaceLemmas.{wider, wider_on_board}
use Rattle.audit_core.proofs.sieges.is_beside_queen.Goals as goal

pub is_round-requires : goal.is_round-requires
is_round-requires g c =
    let b = g.B.Board.stacks c.args.board.now in
    wider _ (wider_on_board _ (spot_within b c.spot.ensures.board c.queen.result c.in-Some.spot (sym c.in-Some.ensures.spot)))
