use Rattle.std.proofs.Common.{sym, subst}
use Rattle.std.proofs.lemmas.Option.{none-some}
use Rattle.hive_model.specs.Fields.{IsTimeText}
use Rattle.command_words.proofs.setup.timed_level.Goals as goal

pub returns-in_err-budget-clause-only : goal.returns-in_err-budget-clause-only
returns-in_err-budget-clause-only c = λ l (budget, is, e).
    absurd (none-some _ (c.in_err-budget.ensures.only budget (subst (λ t. IsTimeText t budget) (sym c.as_bytes.ensures.value) is)))
