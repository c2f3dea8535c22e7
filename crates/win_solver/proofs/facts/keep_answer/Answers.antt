use Rattle.std.proofs.Common.{rules, ◌≡◌, true, false, sym, ap, subst, arith, ◌∙◌, pos, ◌-ℤ◌, to_z, of_z}
use Rattle.std.specs.Prelude.{is_some}
use Rattle.std.proofs.lemmas.Int.{ints, to_z-of_z}
use mir.Syntax.{w32}
use Rattle.hive_model.specs.Keys.{KeyParts}
use Rattle.hive_model.specs.Minimax.{value}
use Rattle.value_table.specs.declared.entry.Bound.TheVariants.{AtLeast, AtMost}
use Rattle.value_table.specs.Truth.{IsTrueOf}
use Rattle.value_table.proofs.TrueEntries.{one_is_enough}
use Rattle.win_solver.proofs.ReachLaws.{under-is}
use Rattle.std.specs.Prelude.{int_le}
use Rattle.win_solver.proofs.facts.keep_answer.Goals as goal

pub new-requires : goal.new-requires
new-requires c =
    let found = c.requires.found in
    let number : to_z w32 (of_z w32 c.args.least) ≡ c.args.least = to_z-of_z w32 c.args.least (search rules) in
    let some : is_some c.args.reply ≡ true = search rules in
    subst (λ (k : KeyParts). IsTrueOf k c.args.depth AtLeast (to_z w32 (of_z w32 c.args.least))) found.2
    (one_is_enough found.0 c.args.depth AtLeast _ found.1 (ap (λ n. int_le n (value found.0 c.args.depth)) number ∙ sym found.3 ∙ some))

pub new-requires-else-is_some : goal.new-requires-else-is_some
new-requires-else-is_some c =
    let found = c.requires.found in
    let less : to_z w32 (of_z w32 (to_z w32 (of_z w32 c.args.least) -ℤ pos 1)) ≡ c.args.least -ℤ pos 1 = omega (arith, ints, c.requires.low, c.ranges.least.sfits) in
    let none : is_some c.args.reply ≡ false = search rules in
    subst (λ (k : KeyParts). IsTrueOf k c.args.depth AtMost (to_z w32 (of_z w32 (to_z w32 (of_z w32 c.args.least) -ℤ pos 1)))) found.2
    (one_is_enough found.0 c.args.depth AtMost _ found.1 (under-is c.args.least _ (value found.0 c.args.depth) less (sym found.3 ∙ none)))
