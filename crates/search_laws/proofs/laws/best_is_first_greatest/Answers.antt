use Rattle.search_laws.proofs.BestLaws.{best-exists, best-is, is-best}
use Rattle.search_laws.proofs.laws.best_is_first_greatest.Goals as goal

pub returns : goal.returns
returns c = λ p d inner. (best-exists p d inner, λ m. (best-is p d m, is-best p d m inner))
