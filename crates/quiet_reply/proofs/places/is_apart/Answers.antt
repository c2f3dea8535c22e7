use Rattle.std.proofs.Common.{sym, ◌∙◌}
use Rattle.hive_model.proofs.BoardLemmas.{spot_within}
use Rattle.hive_model.proofs.PlaceLemmas.{wider, wider_on_board}
use Rattle.quiet_reply.proofs.places.is_apart.Goals as goal

pub are_apart-requires : goal.are_apart-requires
are_apart-requires g c =
    wider _ (wider_on_board _ (spot_within (g.B.Board.stacks c.args.board.now) c.spot.ensures.board c.queen.result c.in-Some.spot (sym c.spot.ensures.spot ∙ c.in-Some.is)))
