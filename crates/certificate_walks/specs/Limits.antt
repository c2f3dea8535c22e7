-- The bound that a claim states.
use Rattle.std.specs.Prelude.{ℕ, Bool, ℤ, int_le, ◌≤ℤ◌, List, [], ◌∷◌}
use Rattle.hive_model.specs.declared.places.Move.{Move}
use Rattle.hive_model.specs.Positions.{Position}
use Rattle.hive_model.specs.Games.{after}
use Rattle.hive_model.specs.Minimax.{value}
use Rattle.certificate_walks.specs.declared.limit.Limit.{Limit}
use Rattle.certificate_walks.specs.declared.limit.Limit.TheVariants.{AtMost, AtLeast}

-- the value keeps to the limit
abbrev pub Keeps : Limit → ℤ → Type 0
Keeps (AtMost x) v = v ≤ℤ x
Keeps (AtLeast x) v = x ≤ℤ v

-- the test for this
abbrev pub is_kept : Limit → ℤ → Bool
is_kept (AtMost x) v = int_le v x
is_kept (AtLeast x) v = int_le x v

-- the number of the limit
abbrev pub number : Limit → ℤ
number (AtMost x) = x
number (AtLeast x) = x

-- a fact for each element of a list
abbrev pub Each : {A : Type 0} → (A → Type 0) → List A → Type 0
Each P [] = Unit {0}
Each P (x ∷ xs) = P x × Each P xs

-- after each of the moves the value keeps to the limit
abbrev pub EachKeeps : Position → ℕ → Limit → List Move → Type 0
EachKeeps p e c ms = Each (λ m. Keeps c (value (after p m) e)) ms
