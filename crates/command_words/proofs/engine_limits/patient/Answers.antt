use Rattle.std.proofs.lemmas.Option.{none-some}
use Rattle.command_words.proofs.engine_limits.patient.Goals as goal

pub returns-in_err-patience-clause-only : goal.returns-in_err-patience-clause-only
returns-in_err-patience-clause-only c = λ limit (patience, is, e). absurd (none-some _ (c.in_err-patience.ensures.only patience is))
