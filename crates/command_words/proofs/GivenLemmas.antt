-- The values of options.
use Rattle.std.proofs.Common.{◌≡◌, ◌∙◌, ap, sym, subst, ℕ, List, Bor, MatchOption, Option, None, Some, option_map, true}
use Rattle.std.specs.Option.{is_some}
use Rattle.std.proofs.lemmas.Option.{none-some, same_Some}

-- a value that is not present is none
pub none_given : (o : Option (Bor (List ℕ))) (v : List ℕ) → o ≡ None → option_map (λ r. r.now) o ≡ Some v → ⊥
none_given o v e f = none-some _ (sym (ap (option_map (λ r. r.now)) e) ∙ f)

-- a value that is present is this one
pub some_given : (o : Option (Bor (List ℕ))) (r : Bor (List ℕ)) (v : List ℕ) → o ≡ Some r → option_map (λ r. r.now) o ≡ Some v → r.now ≡ v
some_given o r v e f = same_Some _ _ (sym (ap (option_map (λ r. r.now)) e) ∙ f)

-- a value that is present is not none
pub not_none : (o : Option (Bor (List ℕ))) → is_some o ≡ true → option_map (λ r. r.now) o ≡ None → ⊥
not_none None s e = cc
not_none (Some r) s e = none-some _ (sym e)

-- values that were read are these
pub values_are : {found : Option (List (Option (List ℕ)))} {given values : List (Option (List ℕ))} → found ≡ Some given → MatchOption found ⊥ (λ g. g ≡ values) → given ≡ values
values_are {values = values} is here = subst (λ o. MatchOption o ⊥ (λ g. g ≡ values)) is here
