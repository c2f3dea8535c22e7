use Rattle.std.proofs.Common.{rules, ◌∙◌}
use Rattle.std.proofs.lemmas.Int.{to_z-of_z}
use mir.Val.{SFits}
use mir.Syntax.{w32}
use Rattle.search_laws.proofs.MinimaxLaws.{value-at_end, value-at_zero}
use Rattle.search_laws.proofs.leaf.leaf_value.Goals as goal

pub returns-in-Some-clause-leaf : goal.returns-in-Some-clause-leaf
returns-in-Some-clause-leaf g c =
    let fits : SFits w32 c.in-Some.worth = search rules in
    to_z-of_z w32 _ fits ∙ value-at_end _ _ _ _ _ c.state.ensures.state c.side.ensures c.in-Some.ensures

pub returns-then-depth-eq0-clause-leaf : goal.returns-then-depth-eq0-clause-leaf
returns-then-depth-eq0-clause-leaf g c =
    let fits : SFits w32 c.evaluate.result = search rules in
    to_z-of_z w32 _ fits ∙ value-at_zero _ _ _ _ _ c.state.ensures.state c.side.ensures c.in_default.ensures c.if-depth-eq0.true c.evaluate.ensures.worth
