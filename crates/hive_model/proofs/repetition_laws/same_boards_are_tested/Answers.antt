use Rattle.hive_model.proofs.SameBoards.{boards_tested}
use Rattle.hive_model.proofs.repetition_laws.same_boards_are_tested.Goals as goal

pub returns : goal.returns
returns c = boards_tested
