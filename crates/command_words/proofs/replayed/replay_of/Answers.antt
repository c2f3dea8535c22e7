use Rattle.std.proofs.Common.{◌≡◌, ◌∙◌, ap, sym, subst, [], ◌∷◌, MatchOption}
use Rattle.option_words.specs.Options.{value_at}
use Rattle.command_words.specs.Matches.{IsRuleOf}
use Rattle.command_words.proofs.replayed.replay_of.Goals as goal

pub returns-in_default-clause-only : goal.returns-in_default-clause-only
returns-in_default-clause-only c = λ r w.
    absurd (subst (λ o. MatchOption o ⊥ (λ given. given ≡ w.value ∷ [])) c.in_default.is (c.in_ok-given.ensures.only (w.value ∷ []) w.give))

pub returns-clause-only : goal.returns-clause-only
returns-clause-only c = λ r w.
    let values = subst (λ o. MatchOption o ⊥ (λ given. given ≡ w.value ∷ [])) c.in-Some.is (c.in_ok-given.ensures.only (w.value ∷ []) w.give) in
    let same = c.value.ensures ∙ ap (λ given. value_at given 0) values in
    c.rule_of.ensures.only r (subst (λ v. IsRuleOf v r) (sym same) w.rule)
