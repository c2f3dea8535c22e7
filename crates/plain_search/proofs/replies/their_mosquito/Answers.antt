use Rattle.std.proofs.Common.{sym}
use Rattle.hive_model.proofs.BoardLemmas.{spot_within}
use Rattle.plain_search.proofs.replies.their_mosquito.Goals as goal

pub returns-clause-within : goal.returns-clause-within
returns-clause-within g c = spot_within _ c.in-Some-spot.ensures.board _ _ (sym c.in-Some-spot.ensures.spot)
