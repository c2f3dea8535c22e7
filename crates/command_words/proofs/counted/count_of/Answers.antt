use Rattle.std.proofs.Common.{◌≡◌, ◌∙◌, ap, sym, subst, [], ◌∷◌, Some, MatchOption}
use Rattle.option_words.specs.Options.{value_at}
use Rattle.command_words.specs.Words.{AreCounts}
use Rattle.command_words.proofs.GivenLemmas.{none_given, some_given}
use Rattle.command_words.proofs.counted.count_of.Goals as goal

pub returns-in_default-clause-only : goal.returns-in_default-clause-only
returns-in_default-clause-only c = λ p n s w.
    absurd (subst (λ o. MatchOption o ⊥ (λ given. given ≡ Some w.plies_text ∷ (w.workers_text ∷ (w.split_text ∷ [])))) c.in_default.is (c.in_ok-given.ensures.only (Some w.plies_text ∷ (w.workers_text ∷ (w.split_text ∷ []))) w.give))

pub returns-in_default-value-clause-only : goal.returns-in_default-value-clause-only
returns-in_default-value-clause-only c = λ p n s w.
    let values = subst (λ o. MatchOption o ⊥ (λ given. given ≡ Some w.plies_text ∷ (w.workers_text ∷ (w.split_text ∷ [])))) c.in-Some.is (c.in_ok-given.ensures.only (Some w.plies_text ∷ (w.workers_text ∷ (w.split_text ∷ []))) w.give) in
    absurd (none_given c.value.result w.plies_text c.in_default-value.is (c.value.ensures ∙ ap (λ given. value_at given 0) values))

pub returns-clause-only : goal.returns-clause-only
returns-clause-only c = λ p n s w.
    let values = subst (λ o. MatchOption o ⊥ (λ given. given ≡ Some w.plies_text ∷ (w.workers_text ∷ (w.split_text ∷ [])))) c.in-Some.is (c.in_ok-given.ensures.only (Some w.plies_text ∷ (w.workers_text ∷ (w.split_text ∷ []))) w.give) in
    let plies = some_given c.value.result c.in-Some-value.plies w.plies_text c.in-Some-value.is (c.value.ensures ∙ ap (λ given. value_at given 0) values) in
    let workers = c.value-2.ensures ∙ ap (λ given. value_at given 1) values in
    let split = c.value-3.ensures ∙ ap (λ given. value_at given 2) values in
    c.count_at.ensures.only p n s
    (subst (λ t. AreCounts t _ _ p n s) (sym plies) (subst (λ v. AreCounts w.plies_text v _ p n s) (sym workers) (subst (λ v. AreCounts w.plies_text w.workers_text v p n s) (sym split) w.counts)))
