use Rattle.strategy_lemmas.proofs.IndexLaws.{reach}
use Rattle.strategy_lemmas.proofs.FirstLaws.{IsSoFar}
use Rattle.strategy_lemmas.proofs.lemmas.Lemmas.first.Given as goal

-- the lemmas after the place are searched, and the lemma there has the key
abbrev pub invariant-loop-at : goal.invariant-loop-at
invariant-loop-at l = IsSoFar l.key l.depth l.least l.self l.found l.at

abbrev pub decreases-loop-at : goal.decreases-loop-at
decreases-loop-at l = reach l.at
