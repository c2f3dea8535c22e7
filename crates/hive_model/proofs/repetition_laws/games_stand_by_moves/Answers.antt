use Rattle.hive_model.proofs.StandLaws.{stands_by_moves, all_stand}
use Rattle.hive_model.proofs.repetition_laws.games_stand_by_moves.Goals as goal

pub returns-clause-more : goal.returns-clause-more
returns-clause-more c = stands_by_moves

pub returns-clause-off : goal.returns-clause-off
returns-clause-off c = all_stand
