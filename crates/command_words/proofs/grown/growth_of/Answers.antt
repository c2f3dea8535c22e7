use Rattle.std.proofs.Common.{◌≡◌, ◌∙◌, ap, sym, subst, [], ◌∷◌, Some, MatchOption}
use Rattle.option_words.specs.Options.{value_at}
use Rattle.command_words.specs.Words.{AreGrowth}
use Rattle.command_words.proofs.GivenLemmas.{none_given, some_given}
use Rattle.command_words.proofs.grown.growth_of.Goals as goal

pub returns-in_default-clause-only : goal.returns-in_default-clause-only
returns-in_default-clause-only c = λ s n w.
    absurd (subst (λ o. MatchOption o ⊥ (λ given. given ≡ Some w.seed_text ∷ (Some w.plies_text ∷ []))) c.in_default.is (c.in_ok-given.ensures.only (Some w.seed_text ∷ (Some w.plies_text ∷ [])) w.give))

pub returns-in_default-value-clause-only : goal.returns-in_default-value-clause-only
returns-in_default-value-clause-only c = λ s n w.
    let values = subst (λ o. MatchOption o ⊥ (λ given. given ≡ Some w.seed_text ∷ (Some w.plies_text ∷ []))) c.in-Some.is (c.in_ok-given.ensures.only (Some w.seed_text ∷ (Some w.plies_text ∷ [])) w.give) in
    absurd (none_given c.value.result w.seed_text c.in_default-value.is (c.value.ensures ∙ ap (λ given. value_at given 0) values))

pub returns-in_default-value-2-clause-only : goal.returns-in_default-value-2-clause-only
returns-in_default-value-2-clause-only c = λ s n w.
    let values = subst (λ o. MatchOption o ⊥ (λ given. given ≡ Some w.seed_text ∷ (Some w.plies_text ∷ []))) c.in-Some.is (c.in_ok-given.ensures.only (Some w.seed_text ∷ (Some w.plies_text ∷ [])) w.give) in
    absurd (none_given c.value-2.result w.plies_text c.in_default-value-2.is (c.value-2.ensures ∙ ap (λ given. value_at given 1) values))

pub returns-clause-only : goal.returns-clause-only
returns-clause-only c = λ s n w.
    let values = subst (λ o. MatchOption o ⊥ (λ given. given ≡ Some w.seed_text ∷ (Some w.plies_text ∷ []))) c.in-Some.is (c.in_ok-given.ensures.only (Some w.seed_text ∷ (Some w.plies_text ∷ [])) w.give) in
    let seed = some_given c.value.result c.in-Some-value.seed w.seed_text c.in-Some-value.is (c.value.ensures ∙ ap (λ given. value_at given 0) values) in
    let plies = some_given c.value-2.result c.in-Some-value-2.plies w.plies_text c.in-Some-value-2.is (c.value-2.ensures ∙ ap (λ given. value_at given 1) values) in
    c.growth_at.ensures.only s n (subst (λ t. AreGrowth t c.in-Some-value-2.plies.now s n) (sym seed) (subst (λ t. AreGrowth w.seed_text t s n) (sym plies) w.growth))
