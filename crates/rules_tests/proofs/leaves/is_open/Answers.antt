use Rattle.std.proofs.Common.{sym}
use Rattle.hive_model.proofs.BoardLemmas.{spot_within}
use Rattle.hive_model.proofs.PlaceLemmas.{wider, wider_on_board}
use Rattle.rules_tests.proofs.leaves.is_open.Goals as goal

pub is_walled-requires : goal.is_walled-requires
is_walled-requires g c =
    let b = g.B.Board.stacks c.args.board.now in
    wider _ (wider_on_board _ (spot_within b c.spot.ensures.board c.queen.result c.in-Some.spot (sym c.in-Some.ensures.spot)))
