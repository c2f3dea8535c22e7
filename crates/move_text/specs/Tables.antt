-- What a text or a byte names: the first of a list whose name it is.
use Rattle.std.specs.Prelude.{ℕ, nat_eq, List, Option}
use Rattle.std.specs.List.{find}
use Rattle.std.specs.Str.{bytes_eq}

-- the first of these whose name the text is
abbrev pub named_by : {X : Type 0} → (X → List ℕ) → List X → List ℕ → Option X
named_by name xs text = find (λ x. bytes_eq text (name x)) xs

-- the first of these whose code the byte is
abbrev pub coded_by : {X : Type 0} → (X → ℕ) → List X → ℕ → Option X
coded_by code xs byte = find (λ x. nat_eq byte (code x)) xs
