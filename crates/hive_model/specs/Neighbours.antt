-- The six neighbours of a place as one number.
use Rattle.std.specs.Prelude.{ℕ, ◌+◌, Bool, if◌then◌else◌}
use Rattle.hive_model.specs.declared.places.Place.{Place}
use Rattle.hive_model.specs.declared.places.Dir.{Dir}
use Rattle.hive_model.specs.declared.places.Dir.TheVariants.{E, NE, NW, W, SW, SE}
use Rattle.hive_model.specs.Places.{step}

-- whether the neighbour in each direction is in a set
abbrev pub ring : (Place → Bool) → Place → Dir → Bool
ring o p d = o (step p d)

-- the bit of a direction
abbrev pub weight : Dir → ℕ
weight E = 1
weight NE = 2
weight NW = 4
weight W = 8
weight SW = 16
weight SE = 32

-- the bit of a direction if the set has it, and 0 otherwise
abbrev pub bit_of : (Dir → Bool) → Dir → ℕ
bit_of r d = if r d then weight d else 0

-- a set of directions as a number below 64: the sum of their bits
abbrev pub ring_mask : (Dir → Bool) → ℕ
ring_mask r = bit_of r E + bit_of r NE + bit_of r NW + bit_of r W + bit_of r SW + bit_of r SE
