use Rattle.hive_model.proofs.CopyLaws.{copies_from, from_copies, moves_as_from, from_moves_as}
use Rattle.hive_model.proofs.laws.copies_are_tested.Goals as goal

pub returns-clause-copies : goal.returns-clause-copies
returns-clause-copies c = λ b p q. (copies_from b p q, from_copies b p q)

pub returns-clause-moves : goal.returns-clause-moves
returns-clause-moves c = λ k b p q. (moves_as_from k b p q, from_moves_as k b p q)
