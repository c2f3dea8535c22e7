-- How many keys have each number, by a map from numbers to counts.
use Rattle.std.specs.Prelude.{◌≡◌, ℕ, Bool, nat_eq, List, Option, None, Some}
use Rattle.std.specs.List.{count_by}
use Rattle.indexmap.specs.IndexMap.{IndexMap, get}
use Rattle.hive_model.specs.Keys.{KeyParts}
use Rattle.hive_model.specs.KeyNumbers.{number_of}

-- A number that is not in the map counts 0.
abbrev pub or_none : Option ℕ → ℕ
or_none None = 0
or_none (Some n) = n

abbrev pub count_of : {S : Type 0} → IndexMap ℕ ℕ S → ℕ → ℕ
count_of m n = or_none (get nat_eq m n)

abbrev pub has_number : ℕ → KeyParts → Bool
has_number n k = nat_eq n (number_of k)

-- for each number, the map counts the keys of the list that have it
abbrev pub AreCounted : {S : Type 0} → List KeyParts → IndexMap ℕ ℕ S → Type 0
AreCounted ks m = (n : ℕ) → count_of m n ≡ count_by (has_number n) ks
