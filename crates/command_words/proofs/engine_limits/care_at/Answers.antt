use Rattle.std.proofs.Common.{◌∙◌, Some}
use Rattle.std.proofs.lemmas.Option.{none-some, same_Some}
use Rattle.command_words.proofs.engine_limits.care_at.Goals as goal

pub returns-in_err-quiet-clause-only : goal.returns-in_err-quiet-clause-only
returns-in_err-quiet-clause-only c = λ care w. absurd (none-some _ (c.in_err-quiet.ensures.only care.quiet w.quiet_is))

pub returns-clause-only : goal.returns-clause-only
returns-clause-only c = λ care w.
    let quiet = same_Some _ _ (c.in_ok-quiet.ensures.only care.quiet w.quiet_is) in
    c.waiting.ensures.only care.limit w.limit_is ∙ (λ j. Some (record { limit = care.limit; quiet = quiet j }))
