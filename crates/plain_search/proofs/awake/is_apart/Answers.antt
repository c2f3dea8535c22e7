use Rattle.std.proofs.Common.{sym}
use Rattle.hive_model.proofs.BoardLemmas.{spot_within}
use Rattle.hive_model.proofs.PlaceLemmas.{wider, wider_on_board}
use Rattle.plain_search.proofs.awake.is_apart.Goals as goal

pub towards-requires : goal.towards-requires
towards-requires g c = wider _ (wider_on_board _ (spot_within _ c.in-Some-spot.ensures.board _ _ (sym c.in-Some-spot.ensures.spot)))
