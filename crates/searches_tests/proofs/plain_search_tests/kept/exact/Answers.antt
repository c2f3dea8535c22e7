use Rattle.std.proofs.Common.{◌≡◌, rules, sym, ap, ◌∙◌, to_z, of_z}
use mir.Val.{SFits}
use mir.Syntax.{w32}
use Rattle.std.proofs.lemmas.Int.{to_z-of_z}
use Rattle.hive_model.specs.Histories.{History, position}
use Rattle.hive_model.specs.Minimax.{value}
use Rattle.value_table.specs.declared.entry.Bound.TheVariants.{Exact}
use Rattle.value_table.proofs.TrueEntries.{one_is_enough, exact_stands}
use Rattle.searches_tests.proofs.plain_search_tests.kept.exact.Goals as goal

pub new-requires-2 : goal.new-requires-2
new-requires-2 c =
    let fits : SFits w32 c.minimax-value.result = search rules in
    let number : to_z w32 (of_z w32 c.minimax-value.result) ≡ c.minimax-value.result = to_z-of_z w32 c.minimax-value.result fits in
    let known : value (position c.minimax-value.new.game.history) 1 ≡ to_z w32 (of_z w32 c.minimax-value.result) =
    ap (λ (h : History). value (position h) 1) c.minimax-value.ensures.before.game ∙ sym c.minimax-value.ensures.worth ∙ sym number in
    rw c.key.ensures.key (one_is_enough _ 1 Exact _ c.key.ensures.sound (exact_stands _ _ known))
