-- The number under which tables look a key up. Its one requirement is that equal keys have equal
-- numbers.
use Rattle.std.specs.Prelude.{◌≡◌, IsTrue, ℕ, nat_eq}
use Rattle.std.specs.Hash as fed
use Rattle.std.proofs.Common.{ap}
use Rattle.std.proofs.lemmas.Bool.{and_parts, eqb-true}
use Rattle.hive_model.specs.Keys.{KeyParts}
use Rattle.hive_model.specs.SameKeys.{same_key}
use Rattle.hive_model.specs.SpotNumbers.{number_in}

abbrev pub number_of : KeyParts → ℕ
number_of k = number_in k.spots

-- equal keys have equal numbers
pub equal_numbers : (a b : KeyParts) → IsTrue (same_key a b)
    → fed.u64 (number_of a) ≡ fed.u64 (number_of b)
equal_numbers a b e =
    ap (λ n. fed.u64 n)
    (eqb-true (number_of a) (number_of b) (and_parts (nat_eq (number_of a) (number_of b)) _ e).0)
