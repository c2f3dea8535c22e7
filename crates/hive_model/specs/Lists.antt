-- Lists: their members, paths over them, and strict order.
use Rattle.std.specs.Prelude.{◌≡◌, ℕ, suc, zero, ◌+◌, Bool, not, List, [], ◌∷◌, ◌++◌, ◌⊎◌}
use Rattle.std.specs.List.{filter, list_any}
use Rattle.std.specs.declared.cmp.Ordering.{Ordering}
use Rattle.std.specs.declared.cmp.Ordering.TheVariants.{Less}

-- x is on the list
abbrev pub IsOn : {X : Type 0} → List X → X → Type 0
IsOn [] x = ⊥
IsOn (y ∷ ys) x = (y ≡ x) ⊎ IsOn ys x

-- A path from a to b: each item is one step from the one before it, and the last item is b.
abbrev pub IsPath : {X : Type 0} → (X → X → Type 0) → X → List X → X → Type 0
IsPath S a [] b = a ≡ b
IsPath S a (x ∷ xs) b = S a x × IsPath S x xs b

-- x is one step from an item in front
abbrev pub is_met : {X : Type 0} → (X → X → Bool) → List X → X → Bool
is_met s front x = list_any (λ f. s f x) front

-- A flood: each round takes from the rest what is one step from the items taken in the round
-- before. It yields all items that are taken in n rounds.
abbrev pub flood : {X : Type 0} → (X → X → Bool) → ℕ → List X → List X → List X
flood s zero front rest = []
flood s (suc n) front rest =
    filter (is_met s front) rest ++ flood s n (filter (is_met s front) rest)
    (filter (λ x. not (is_met s front x)) rest)

-- the list is in strict order, so that each item is on it once
abbrev pub Rises : {X : Type 0} → (X → X → Ordering) → List X → Type 0
Rises R [] = Unit {0}
Rises {X} R (x ∷ xs) = ((y : X) → IsOn xs y → R x y ≡ Less) × Rises R xs

-- The item goes in front of the first list. If there is no list, it begins one.
abbrev pub onto : {X : Type 0} → X → List (List X) → List (List X)
onto x [] = (x ∷ []) ∷ []
onto x (p ∷ ps) = (x ∷ p) ∷ ps

-- the n numbers from `first` on
abbrev pub count_from : ℕ → ℕ → List ℕ
count_from first zero = []
count_from first (suc n) = first ∷ count_from (first + 1) n
