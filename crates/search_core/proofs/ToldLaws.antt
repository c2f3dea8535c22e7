-- A worth that is known without a play.
use Rattle.std.proofs.Common.{◌≡◌, arith, ℤ}
use Rattle.std.proofs.lemmas.Int.{ints}
use Rattle.hive_model.specs.declared.places.Move.{Move}
use Rattle.hive_model.specs.Games.{after}
use Rattle.hive_model.specs.Positions.{Position}
use Rattle.hive_model.specs.Minimax.{value}
use Rattle.search_laws.specs.Laws.{IsSmall}
use Rattle.search_laws.proofs.MinimaxLaws.{value-within}

pub leaf-small : (p : Position) (m : Move) (v : ℤ) → v ≡ value (after p m) 0 → IsSmall 1000100 v
leaf-small p m v is =
    let small = value-within (after p m) 0 in
    let low = small.low in
    let high = small.high in
    record { low = omega (arith, ints, low, is); high = omega (arith, ints, high, is) }
