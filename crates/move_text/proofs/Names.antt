-- The text of a piece is its colour's letter, its kind's letter and its number.
use Rattle.std.proofs.Common.{◌≡◌, ℕ, suc, zero, ◌<◌, refl, arith, lit<}
use Rattle.hive_model.specs.declared.pieces.Colour.{Colour}
use Rattle.hive_model.specs.declared.pieces.Colour.TheVariants.{White, Black}
use Rattle.hive_model.specs.declared.pieces.Kind.{Kind}
use Rattle.hive_model.specs.declared.pieces.Kind.TheVariants.{Queen, Spider, Beetle, Grasshopper, Ant, Mosquito, Ladybug, Pillbug}
use Rattle.hive_model.specs.Pieces.{piece_of, IsNumber}
use Rattle.hive_model.specs.Texts.{name_of, piece_text}

-- what holds of each kind and each of its numbers
record HoldsOfNumbers (P : Kind → ℕ → Type 0) : Type 0 where
  queen : P Queen 0
  spider1 : P Spider 1
  spider2 : P Spider 2
  beetle1 : P Beetle 1
  beetle2 : P Beetle 2
  grasshopper1 : P Grasshopper 1
  grasshopper2 : P Grasshopper 2
  grasshopper3 : P Grasshopper 3
  ant1 : P Ant 1
  ant2 : P Ant 2
  ant3 : P Ant 3
  mosquito : P Mosquito 0
  ladybug : P Ladybug 0
  pillbug : P Pillbug 0

of_number : (P : Kind → ℕ → Type 0) → HoldsOfNumbers P → (k : Kind) (n : ℕ) → IsNumber k n → P k n
of_number P all Queen zero h = all.queen
of_number P all Queen (suc n) h = absurd (omega (arith, h.0))
of_number P all Spider zero h = absurd (omega (arith, h.1 refl))
of_number P all Spider (suc zero) h = all.spider1
of_number P all Spider (suc (suc zero)) h = all.spider2
of_number P all Spider (suc (suc (suc n))) h = absurd (omega (arith, h.0))
of_number P all Beetle zero h = absurd (omega (arith, h.1 refl))
of_number P all Beetle (suc zero) h = all.beetle1
of_number P all Beetle (suc (suc zero)) h = all.beetle2
of_number P all Beetle (suc (suc (suc n))) h = absurd (omega (arith, h.0))
of_number P all Grasshopper zero h = absurd (omega (arith, h.1 refl))
of_number P all Grasshopper (suc zero) h = all.grasshopper1
of_number P all Grasshopper (suc (suc zero)) h = all.grasshopper2
of_number P all Grasshopper (suc (suc (suc zero))) h = all.grasshopper3
of_number P all Grasshopper (suc (suc (suc (suc n)))) h = absurd (omega (arith, h.0))
of_number P all Ant zero h = absurd (omega (arith, h.1 refl))
of_number P all Ant (suc zero) h = all.ant1
of_number P all Ant (suc (suc zero)) h = all.ant2
of_number P all Ant (suc (suc (suc zero))) h = all.ant3
of_number P all Ant (suc (suc (suc (suc n)))) h = absurd (omega (arith, h.0))
of_number P all Mosquito zero h = all.mosquito
of_number P all Mosquito (suc n) h = absurd (omega (arith, h.0))
of_number P all Ladybug zero h = all.ladybug
of_number P all Ladybug (suc n) h = absurd (omega (arith, h.0))
of_number P all Pillbug zero h = all.pillbug
of_number P all Pillbug (suc n) h = absurd (omega (arith, h.0))

pub text_of_piece : (c : Colour) (k : Kind) (n : ℕ) → IsNumber k n → piece_text (piece_of c k n) ≡ name_of c k n
text_of_piece White = of_number (λ k n. piece_text (piece_of White k n) ≡ name_of White k n) (record { queen = refl; spider1 = refl; spider2 = refl; beetle1 = refl; beetle2 = refl; grasshopper1 = refl; grasshopper2 = refl; grasshopper3 = refl; ant1 = refl; ant2 = refl; ant3 = refl; mosquito = refl; ladybug = refl; pillbug = refl })
text_of_piece Black = of_number (λ k n. piece_text (piece_of Black k n) ≡ name_of Black k n) (record { queen = refl; spider1 = refl; spider2 = refl; beetle1 = refl; beetle2 = refl; grasshopper1 = refl; grasshopper2 = refl; grasshopper3 = refl; ant1 = refl; ant2 = refl; ant3 = refl; mosquito = refl; ladybug = refl; pillbug = refl })

pub piece_within : (c : Colour) (k : Kind) (n : ℕ) → IsNumber k n → piece_of c k n < 28
piece_within White = of_number (λ k n. piece_of White k n < 28) (record { queen = lit< tt; spider1 = lit< tt; spider2 = lit< tt; beetle1 = lit< tt; beetle2 = lit< tt; grasshopper1 = lit< tt; grasshopper2 = lit< tt; grasshopper3 = lit< tt; ant1 = lit< tt; ant2 = lit< tt; ant3 = lit< tt; mosquito = lit< tt; ladybug = lit< tt; pillbug = lit< tt })
piece_within Black = of_number (λ k n. piece_of Black k n < 28) (record { queen = lit< tt; spider1 = lit< tt; spider2 = lit< tt; beetle1 = lit< tt; beetle2 = lit< tt; grasshopper1 = lit< tt; grasshopper2 = lit< tt; grasshopper3 = lit< tt; ant1 = lit< tt; ant2 = lit< tt; ant3 = lit< tt; mosquito = lit< tt; ladybug = lit< tt; pillbug = lit< tt })
