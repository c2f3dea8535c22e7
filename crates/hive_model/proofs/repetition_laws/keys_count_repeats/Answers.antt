use Rattle.hive_model.proofs.SameBoards.{keys_give_times, keys_grow}
use Rattle.hive_model.proofs.repetition_laws.keys_count_repeats.Goals as goal

pub returns-clause-times : goal.returns-clause-times
returns-clause-times c = keys_give_times

pub returns-clause-more : goal.returns-clause-more
returns-clause-more c = keys_grow
