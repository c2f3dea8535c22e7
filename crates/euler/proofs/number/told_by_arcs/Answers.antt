use Rattle.std.proofs.Common.{◌≡◌, ◌-ℤ◌, to_z, of_z, ◌<◌, ℤ, pos, ◌+ℤ◌, ◌≤ℤ◌, SFits, arith, rules, w8, w32, Fits}
use Rattle.std.proofs.lemmas.Int.{ints}
use Rattle.std.specs.Int.Signed.{le_z_yes}
use Rattle.std.proofs.lemmas.Float.{T_from_true}
use Rattle.euler.proofs.Numbers.{few_tell, many_tell}
use Rattle.euler.proofs.number.told_by_arcs.Goals as goal

pub returns-then-many-lt2-clause-told : goal.returns-then-many-lt2-clause-told
returns-then-many-lt2-clause-told c =
    let fits : Fits w8 c.arcs-many.result = search rules in
    let test = c.if-many-lt2.true in
    let few : c.arcs-many.result < 2 = grind (arith, ints) in
    few_tell c.args.mask c.arcs-many.result c.args.number c.arcs-many.ensures few

pub returns-then-number-many-clause-told : goal.returns-then-number-many-clause-told
returns-then-number-many-clause-told c =
    let fits : Fits w8 c.arcs-many.result = search rules in
    let number : SFits w32 c.args.number = search rules in
    let test = le_z_yes {a = to_z w32 (of_z w32 (pos 3 -ℤ to_z w32 c.arcs-many.result))} {b = to_z w32 (of_z w32 c.args.number)} (T_from_true _ c.if-number-many.true) in
    let many : pos 3 ≤ℤ (c.args.number +ℤ pos c.arcs-many.result) = omega (arith, ints, test, fits, number) in
    many_tell c.args.mask c.arcs-many.result c.args.number c.arcs-many.ensures many
