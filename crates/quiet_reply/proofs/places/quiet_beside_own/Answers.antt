use Rattle.std.proofs.Common.{sym, ◌∙◌}
use Rattle.hive_model.proofs.BoardLemmas.{spot_within}
use Rattle.hive_model.proofs.PlaceLemmas.{wider, wider_on_board}
use Rattle.quiet_reply.proofs.places.quiet_beside_own.Goals as goal

pub quiet_beside-found-requires : goal.quiet_beside-found-requires
quiet_beside-found-requires g c =
    wider _ (wider_on_board _ (spot_within (g.B.Board.stacks c.args.board.now) c.spot.ensures.board _ c.in-Some.spot (sym c.spot.ensures.spot ∙ c.in-Some.is)))
