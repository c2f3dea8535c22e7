-- The number under which tables look a key up. It depends on the spots alone.
use Rattle.std.specs.Prelude.{ℕ, ◌+◌, ◌*◌, ◌%◌, ◌^◌, bit_xor, fold, List, Option, None, Some}
use Rattle.std.specs.Int.{cast_unsigned, w32}
use Rattle.hive_model.specs.declared.places.Spot.{Spot}

-- odd factors that spread their products over 64 bits
abbrev pub spread : ℕ
spread = 0x9E3779B97F4A7C15

abbrev pub spread_q : ℕ
spread_q = 0xC2B2AE3D27D4EB4F

abbrev pub spread_r : ℕ
spread_r = 0x165667B19E3779F9

-- a product modulo 2^64
abbrev pub product : ℕ → ℕ → ℕ
product a b = (a * b) % (2 ^ 64)

abbrev pub spot_number : Spot → ℕ
spot_number s =
    bit_xor (bit_xor (product (cast_unsigned w32 s.place.q) spread_q)
    (product (cast_unsigned w32 s.place.r) spread_r)) (s.level + 1)

-- adds one spot to the number of the spots before it
abbrev pub mixed : ℕ → Option Spot → ℕ
mixed n None = product n spread
mixed n (Some s) = product (bit_xor n (spot_number s)) spread

-- the number of a list of spots
abbrev pub number_in : List (Option Spot) → ℕ
number_in spots = fold mixed 0 spots
