use Rattle.symmetry.proofs.LineLaws.{lines_alike, lines_taken}
use Rattle.symmetry.proofs.OwnLaws.{lines_own}
use Rattle.symmetry.proofs.laws.lines_are_alike.Goals as goal

pub returns-clause-positions : goal.returns-clause-positions
returns-clause-positions c = λ p r s t is js a k n w v low. lines_alike n p r s t k is js a w v low

pub returns-clause-moves : goal.returns-clause-moves
returns-clause-moves c = lines_taken

pub returns-clause-own : goal.returns-clause-own
returns-clause-own c = lines_own
