use Rattle.std.proofs.Common.{◌≡◌, ◌∙◌, ap, arith, ℤ, ◌+ℤ◌, to_z, of_z, w32}
use Rattle.std.proofs.lemmas.Int.{ints}
use Rattle.hive_model.specs.declared.places.Place.{Place}
use Rattle.hive_model.specs.Places.{east}
use Rattle.hive_model.proofs.places.Place.step.Goals as goal

abbrev at : ℤ → ℤ → Place
at q r = record { q = q; r = r }

pub returns : goal.returns
returns c =
    let p = c.args.self in
    let across : to_z w32 (of_z w32 (to_z w32 (of_z w32 p.q) +ℤ to_z w32 (of_z w32 c.east.result))) ≡ p.q +ℤ c.east.result = omega (arith, ints, c.requires.q_low.le, c.requires.q_high.le, c.east.ensures.low, c.east.ensures.high) in
    let along : to_z w32 (of_z w32 (to_z w32 (of_z w32 p.r) +ℤ to_z w32 (of_z w32 c.south.result))) ≡ p.r +ℤ c.south.result = omega (arith, ints, c.requires.r_low.le, c.requires.r_high.le, c.south.ensures.low, c.south.ensures.high) in
    ap (λ (z : ℤ). at z (to_z w32 (of_z w32 (to_z w32 (of_z w32 p.r) +ℤ to_z w32 (of_z w32 c.south.result))))) (across ∙ ap (λ (z : ℤ). p.q +ℤ z) c.east.ensures.far)
    ∙ ap (at (p.q +ℤ east c.args.dir)) (along ∙ ap (λ (z : ℤ). p.r +ℤ z) c.south.ensures.far)
