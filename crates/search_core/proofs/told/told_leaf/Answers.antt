use Rattle.std.proofs.Common.{rules, ◌∙◌, ap, subst, pos, neg_ℤ, ◌-ℤ◌, to_z, of_z}
use mir.Syntax.{w32}
use Rattle.hive_model.specs.Histories.{History, position}
use Rattle.hive_model.specs.Minimax.{reply_value}
use Rattle.hive_model.specs.declared.places.Move.{Move}
use Rattle.search_laws.specs.Found.{IsFound}
use Rattle.search_laws.proofs.Signs.{neg-fits, neg-is}
use Rattle.search_laws.proofs.FoundLaws.{IsFound-exact}
use Rattle.search_core.proofs.ToldLaws.{leaf-small}
use Rattle.search_core.proofs.told.told_leaf.Goals as goal

pub overflow_sub-result : goal.overflow_sub-result
overflow_sub-result g c = neg-fits _ (leaf-small _ _ _ c.in-Some.ensures.value)

pub returns-in-Some-clause-found : goal.returns-in-Some-clause-found
returns-in-Some-clause-found g c =
    let p = position (g.G.Game.history c.args.game.now) in
    IsFound-exact _ _ _
    (neg-is _ (leaf-small _ _ _ c.in-Some.ensures.value) ∙ ap neg_ℤ c.in-Some.ensures.value ∙ ap (λ (m : Move). reply_value p 0 m) c.again.ensures)

pub returns-clause-found : goal.returns-clause-found
returns-clause-found g c =
    subst (λ (h : History). IsFound (reply_value (position h) 0 c.args.m) c.args.window (to_z w32 (of_z w32 (pos 0 -ℤ to_z w32 (of_z w32 c.in_ok-least.least)))))
    c.value_after.ensures.same (search rules)
