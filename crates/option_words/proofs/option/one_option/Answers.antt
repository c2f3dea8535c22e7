use Rattle.std.proofs.Common.{◌≡◌, ◌∙◌, ap, subst, ℕ, List, [], ◌∷◌, Bor, Option, None, Some, option_map, MatchOption}
use Rattle.option_words.specs.Options.{value_at}
use Rattle.option_words.proofs.option.one_option.Goals as goal

-- the value that is found is the one given
is_given : (o : Option (Bor (List ℕ))) (v : List ℕ) → option_map (λ r. r.now) o ≡ Some v → MatchOption o ⊥ (λ r. r.now ≡ v)
is_given None v is = cc
is_given (Some r) v is = let same : Some r.now ≡ Some v = is in cc

pub returns-in-Some-clause-only : goal.returns-in-Some-clause-only
returns-in-Some-clause-only c v give =
    let values = subst (λ o. MatchOption o ⊥ (λ given. given ≡ Some v ∷ [])) c.in-Some.is (c.in_ok-given.ensures.only (Some v ∷ []) give) in
    is_given c.value.result v (c.value.ensures ∙ ap (λ given. value_at given 0) values)

pub returns-in-None-clause-only : goal.returns-in-None-clause-only
returns-in-None-clause-only c v give = subst (λ o. MatchOption o ⊥ (λ given. given ≡ Some v ∷ [])) c.in-None.is (c.in_ok-given.ensures.only (Some v ∷ []) give)
