-- The values of the options of a match.
use Rattle.std.proofs.Common.{◌≡◌, ◌∙◌, ap, sym, refl, subst, ℕ, List, [], ◌∷◌, map, Bor, Option, None, Some, IfOk, IfSome, option_map}
use Rattle.std.specs.Prelude.{Result, Ok, Err}
use Rattle.option_words.specs.Options.{Item, value_at, value_of}
use Rattle.match_core.specs.declared.setup.Level.{Level}
use Rattle.command_words.specs.declared.engine_limits.EngineLimits.{EngineLimits}
use Rattle.command_words.specs.Matches.{Choices, IsCareOf, match_choices, match_options, match_values}

pub weaker : {A : Type 0} (o : Option A) (P Q : A → Type 0) → ((a : A) → P a → Q a) → IfSome o P → IfSome o Q
weaker None P Q f h = tt
weaker (Some a) P Q f h = f a h

-- the values of the options, if it is not known that the first two are given
abbrev match_values_of : Option (List ℕ) → Option (List ℕ) → Choices → Option (List ℕ) → List (Option (List ℕ))
match_values_of white black c from =
    white ∷ (black ∷ (c.game_type ∷ (c.depth ∷ (c.time ∷ (c.margin ∷ (c.plies ∷ (c.repetition ∷ (c.patience ∷ (c.quiet ∷ (from ∷ []))))))))))

-- the values are those at the eleven places
eleven : (given : List (Option (List ℕ))) (items : List Item) → given ≡ map (value_of items) match_options
    → given ≡ match_values_of (value_at given 0) (value_at given 1) (match_choices given) (value_at given 10)
eleven given items e =
    subst (λ (g : List (Option (List ℕ))). g ≡ match_values_of (value_at g 0) (value_at g 1) (match_choices g) (value_at g 10)) (sym e) refl

-- so they are these, if the first two were read
pub values_read : (given : List (Option (List ℕ))) (items : List Item) (white black : List ℕ) → given ≡ map (value_of items) match_options
    → Some white ≡ value_at given 0 → Some black ≡ value_at given 1 → given ≡ match_values white black (match_choices given) (value_at given 10)
values_read given items white black e w b =
    eleven given items e ∙ sym (λ j. match_values_of (w j) (b j) (match_choices given) (value_at given 10))

-- the element at a place of such values
pub value_read : (o : Option (Bor (List ℕ))) (r : Bor (List ℕ)) (v : Option (List ℕ)) → o ≡ Some r → option_map (λ t. t.now) o ≡ v → Some r.now ≡ v
value_read o r v e f = sym (ap (option_map (λ t. t.now)) e) ∙ f

pub both-ok : {A E : Type 0} (r : Result A E) (P Q R : A → Type 0) → ((a : A) → P a → Q a → R a) → IfOk r P → IfOk r Q → IfOk r R
both-ok (Ok a) P Q R f h k = f a h k
both-ok (Err e) P Q R f h k = tt

-- the same values ask for the same care
pub cared : (p p' q q' : Option (List ℕ)) (level : Level) (care : EngineLimits) → p ≡ p' → q ≡ q' → IsCareOf p q level care → IsCareOf p' q' level care
cared p p' q q' level care e f is = subst (λ r. IsCareOf p' r level care) f (subst (λ r. IsCareOf r q level care) e is)
