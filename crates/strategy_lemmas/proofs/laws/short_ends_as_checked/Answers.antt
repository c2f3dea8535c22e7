use Rattle.strategy_lemmas.proofs.OutcomeLaws.{ends-as}
use Rattle.strategy_lemmas.proofs.laws.short_ends_as_checked.Goals as goal

pub returns : goal.returns
returns c = ends-as
