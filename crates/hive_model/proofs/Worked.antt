-- Names for worked rows.
use Rattle.std.proofs.Common.{Bool, true, false, ℕ, ℤ}
use Rattle.std.specs.Prelude.{nat_eq}
use Rattle.hive_model.specs.declared.pieces.GameType.{GameType}
use Rattle.hive_model.specs.declared.places.Place.{Place}
use Rattle.hive_model.specs.declared.places.Move.{Move}
use Rattle.hive_model.specs.declared.places.Move.TheVariants.{Pass, To}

-- the place with these coordinates; minus one is `negsuc 0`, minus two `negsuc 1`
abbrev pub place : ℤ → ℤ → Place
place q r = record { q = q; r = r }

-- the game types: no expansion, the pillbug, all three
abbrev pub plain : GameType
plain = record { mosquito = false; ladybug = false; pillbug = false }

abbrev pub with_pillbug : GameType
with_pillbug = record { mosquito = false; ladybug = false; pillbug = true }

abbrev pub with_all : GameType
with_all = record { mosquito = true; ladybug = true; pillbug = true }

-- a move of this piece
abbrev pub is_move_of : ℕ → Move → Bool
is_move_of x Pass = false
is_move_of x (To y q) = nat_eq x y
