use Rattle.std.proofs.Common.{Some, sym, subst}
use Rattle.std.proofs.lemmas.Option.{none-some, same_Some}
use Rattle.hive_model.specs.Fields.{IsNumberText}
use Rattle.command_words.proofs.counted.count_at.Goals as goal

pub returns-in_err-split-clause-only : goal.returns-in_err-split-clause-only
returns-in_err-split-clause-only c = λ p n s w. absurd (none-some _ (c.in_err-split.ensures.only s w.split_is))

pub returns-clause-only : goal.returns-clause-only
returns-clause-only c = λ p n s w.
    let plies = same_Some _ _ (c.in_ok-plies.ensures.only p (subst (λ b. IsNumberText b 1 8 p) (sym c.as_bytes.ensures.value) w.plies_are)) in
    let workers = same_Some _ _ (c.in_ok-workers.ensures.only n w.workers_are) in
    let split = same_Some _ _ (c.in_ok-split.ensures.only s w.split_is) in
    λ j. Some (record { plies = plies j; workers = workers j; split = split j })
