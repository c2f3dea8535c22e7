use Rattle.std.proofs.Common.{rules, ◌≡◌, refl, ap, ◌∙◌, to_z, of_z}
use Rattle.std.specs.Prelude.{int_le}
use Rattle.std.proofs.lemmas.Int.{to_z-of_z}
use mir.Val.{SFits}
use mir.Syntax.{w32}
use Rattle.hive_model.specs.Evaluation.{eval}
use Rattle.hive_model.specs.Histories.{position}
use Rattle.search_laws.proofs.MinimaxLaws.{value-at_end, value-at_zero}
use Rattle.win_solver.proofs.facts.leaf_reaches.Goals as goal

pub returns-in-Some-clause-leaf : goal.returns-in-Some-clause-leaf
returns-in-Some-clause-leaf g c =
    let fits : SFits w32 c.in-Some.worth = search rules in
    let number : to_z w32 (of_z w32 c.args.least) ≡ c.args.least = to_z-of_z w32 c.args.least (search rules) in
    ap (λ n. int_le n (to_z w32 (of_z w32 c.in-Some.worth))) number
    ∙ ap (int_le c.args.least) (to_z-of_z w32 _ fits ∙ value-at_end _ _ _ _ _ c.state.ensures.state c.side.ensures c.in-Some.ensures)

pub returns-then-depth-eq0-clause-leaf : goal.returns-then-depth-eq0-clause-leaf
returns-then-depth-eq0-clause-leaf g c =
    let number : to_z w32 (of_z w32 c.args.least) ≡ c.args.least = to_z-of_z w32 c.args.least (search rules) in
    c.evaluation_reaches.ensures.reached
    ∙ ap (λ n. int_le n (eval (position (g.G.Game.history c.args.game.now)))) number
    ∙ ap (int_le c.args.least) (value-at_zero _ _ _ _ _ c.state.ensures.state c.side.ensures c.in_default.ensures c.if-depth-eq0.true refl)
