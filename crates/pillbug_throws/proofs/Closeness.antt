-- Neighbours are close.
use Rattle.std.proofs.Common.{arith, subst}
use Rattle.std.proofs.lemmas.Int.{ints}
use Rattle.hive_model.specs.declared.places.Place.{Place}
use Rattle.hive_model.specs.declared.places.Dir.{Dir}
use Rattle.hive_model.specs.declared.places.Dir.TheVariants.{E, NE, NW, W, SW, SE}
use Rattle.hive_model.specs.Places.{step, AreNeighbours}
use Rattle.pillbug_throws.specs.Throwing.{AreClose}

pub step_close : (p : Place) (d : Dir) → AreClose p (step p d)
step_close p E = ((omega (arith, ints), omega (arith, ints)), (omega (arith, ints), omega (arith, ints)))
step_close p NE = ((omega (arith, ints), omega (arith, ints)), (omega (arith, ints), omega (arith, ints)))
step_close p NW = ((omega (arith, ints), omega (arith, ints)), (omega (arith, ints), omega (arith, ints)))
step_close p W = ((omega (arith, ints), omega (arith, ints)), (omega (arith, ints), omega (arith, ints)))
step_close p SW = ((omega (arith, ints), omega (arith, ints)), (omega (arith, ints), omega (arith, ints)))
step_close p SE = ((omega (arith, ints), omega (arith, ints)), (omega (arith, ints), omega (arith, ints)))

pub neighbours_close : (p q : Place) → AreNeighbours p q → AreClose p q
neighbours_close p q (d, leads) = subst (AreClose p) leads (step_close p d)
