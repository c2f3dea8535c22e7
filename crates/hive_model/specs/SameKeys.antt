-- When two keys are equal.
use Rattle.std.specs.Prelude.{◌≡◌, Bool, IsTrue, ◌↔◌}
use Rattle.hive_model.specs.Keys.{KeyParts}
use Rattle.hive_model.specs.contracts.key.KeyPartialEq.TheImpl.{eq-value}

-- `==` of keys
abbrev pub same_key : KeyParts → KeyParts → Bool
same_key = eq-value.it

-- `==` of keys holds exactly if they are equal in all their parts.
abbrev pub KeysAreCompared : Type 0
KeysAreCompared = (a b : KeyParts) → IsTrue (same_key a b) ↔ (a ≡ b)
