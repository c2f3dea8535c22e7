-- Keys that the test finds to be the same are equal.
use Rattle.std.proofs.Common.{◌≡◌, true}
use Rattle.hive_model.specs.Keys.{KeyParts}
use Rattle.hive_model.proofs.SameKeys.{keys}
use Rattle.strategy_lemmas.specs.SameKeys.{same_key}

pub keys-are : (a b : KeyParts) → same_key a b ≡ true → a ≡ b
unfolding same_key
keys-are a b e = (keys a b).0 e
