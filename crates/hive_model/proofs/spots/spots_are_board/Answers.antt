use Rattle.hive_model.proofs.SpotLemmas.{lemma_board}
use Rattle.hive_model.proofs.spots.spots_are_board.Goals as goal

pub returns : goal.returns
returns c = lemma_board c.args.spots.now c.requires
