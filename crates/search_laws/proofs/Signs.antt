-- Signed numbers as the code computes them.
use Rattle.std.proofs.Common.{◌≡◌, ◌-ℤ◌, ◌≤◌, arith, ℤ, pos, negsuc, neg_ℤ, ◌≤ℤ◌, ◌<ℤ◌, to_z, of_z, true, false}
use Rattle.std.proofs.lemmas.Int.{ints}
use mir.Val.{SFits}
use lib.Signed.{le_z, lt_z}
use mir.Syntax.{w32}
use Rattle.search_laws.specs.Laws.{IsSmall}

pub neg-fits : (z : ℤ) → IsSmall 1000100 z → SFits w32 (pos 0 -ℤ to_z w32 (of_z w32 z))
neg-fits z w = omega (arith, ints)

pub neg-is : (z : ℤ) → IsSmall 1000100 z → to_z w32 (of_z w32 (pos 0 -ℤ to_z w32 (of_z w32 z))) ≡ neg_ℤ z
neg-is z w = omega (arith, ints)

pub turned : (z : ℤ) → negsuc 1000099 ≤ℤ z → z ≤ℤ pos 1000100 → to_z w32 (of_z w32 (pos 0 -ℤ to_z w32 (of_z w32 z))) ≡ neg_ℤ z
turned z low high = omega (arith, ints)

pub at-least : (b r : ℤ) → SFits w32 b → SFits w32 r → le_z (to_z w32 (of_z w32 b)) (to_z w32 (of_z w32 r)) ≡ true → b ≤ℤ r
at-least b r fb fr e = grind (arith, ints)

pub below : (b r : ℤ) → SFits w32 b → SFits w32 r → le_z (to_z w32 (of_z w32 b)) (to_z w32 (of_z w32 r)) ≡ false → r <ℤ b
below b r fb fr e = grind (arith, ints)

pub lt-true : (a b : ℤ) → lt_z a b ≡ true → a <ℤ b
lt-true a b e = grind (arith, ints)

pub lt-false : (a b : ℤ) → lt_z a b ≡ false → b ≤ℤ a
lt-false a b e = grind (arith, ints)
