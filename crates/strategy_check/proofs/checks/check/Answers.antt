use Rattle.std.proofs.Common.{subst, rules, refl}
use Rattle.hive_model.specs.Histories.{position}
use Rattle.certificate_walks.proofs.ItemLaws.{taking-is}
use Rattle.certificate_walks.specs.Ends.{EndsItems}
use Rattle.certificate_walks.proofs.EndLaws.{certificate-answers, certificate-counts, certificate-unread, checks-items, ends-unread}
use Rattle.strategy_check.specs.declared.why.Why.TheVariants.{LeafFails, BadIndex, Rest}
use Rattle.strategy_check.specs.Trace.{checked, index_rules, steps}
use Rattle.strategy_check.specs.Checks.{index_faults, index_sight, seen}
use Rattle.strategy_check.specs.Taking.{moment}
use Rattle.strategy_check.proofs.IndexWalks.{leaf-inner, place-inner, seen-tells}
use Rattle.strategy_check.proofs.checks.check.Goals as goal

pub returns-in-Some-clause-told : goal.returns-in-Some-clause-told
returns-in-Some-clause-told g c = λ items e.
    let t = c.in-Some.ensures.told (steps items 0) (search rules) in
    let after = c.walk_certificate-walked.new.walker in
    let told = (g.I.Items.supply after.indices.now).left in
    certificate-answers index_rules index_sight told after.taken (seen told after.taken) (seen-tells told after.taken) Rest _ t.0 c.in-Some.walked c.walk_answer.result _ c.answer_of.result refl t.1 t.2 refl
    c.walk_answer.ensures (search rules)

pub returns-in-Some-clause-items : goal.returns-in-Some-clause-items
returns-in-Some-clause-items g c =
    let supply = g.I.Items.supply in
    let claim = c.args.claim.now in
    let begun = c.new-walker.result in
    let after = c.walk_certificate-walked.new.walker in
    let told = (supply after.indices.now).left in
    let part = taking-is index_faults LeafFails BadIndex leaf-inner place-inner (moment supply) c.in-Some.walked c.walk_answer.result begun after c.walk_answer.ensures c.in-Some.ensures.part in
    let ends : EndsItems index_faults c.walk_answer.result after.taken c.answer_of.result (supply after.indices.now) (supply c.answer_of.new.items) =
    subst (λ x. EndsItems index_faults c.walk_answer.result after.taken c.answer_of.result (supply x) (supply c.answer_of.new.items)) (search rules) c.answer_of.ensures.items in
    checks-items supply index_faults (checked (position (g.G.Game.history c.args.game.now)) claim.depth claim.best claim.value) c.walk_answer.result c.answer_of.result c.args.indices.now begun.indices.now after.indices.now c.answer_of.new.items _ _ begun.taken after.taken
    c.new-walker.ensures.same c.new-walker.ensures.taken part ends (λ items e counts.
    let t = c.in-Some.ensures.told (steps items 0) (search rules) in
    certificate-counts index_rules index_sight told after.taken (seen told after.taken) (seen-tells told after.taken) Rest _ t.0 c.in-Some.walked c.walk_answer.result _ c.answer_of.result _ _ t.1 t.2 refl
    c.walk_answer.ensures (search rules) counts (ends.halted _))

pub returns-in-Some-clause-unread : goal.returns-in-Some-clause-unread
returns-in-Some-clause-unread g c =
    let supply = g.I.Items.supply in
    let claim = c.args.claim.now in
    let begun = c.new-walker.result in
    let after = c.walk_certificate-walked.new.walker in
    let told = (supply after.indices.now).left in
    let part = taking-is index_faults LeafFails BadIndex leaf-inner place-inner (moment supply) c.in-Some.walked c.walk_answer.result begun after c.walk_answer.ensures c.in-Some.ensures.part in
    let ends : EndsItems index_faults c.walk_answer.result after.taken c.answer_of.result (supply after.indices.now) (supply c.answer_of.new.items) =
    subst (λ x. EndsItems index_faults c.walk_answer.result after.taken c.answer_of.result (supply x) (supply c.answer_of.new.items)) (search rules) c.answer_of.ensures.items in
    ends-unread supply index_faults (checked (position (g.G.Game.history c.args.game.now)) claim.depth claim.best claim.value) c.walk_answer.result c.answer_of.result c.args.indices.now begun.indices.now after.indices.now c.answer_of.new.items _ _ begun.taken after.taken
    c.new-walker.ensures.same c.new-walker.ensures.taken part (λ items e counts.
    let t = c.in-Some.ensures.told (steps items 0) (search rules) in
    certificate-unread index_rules index_sight told after.taken (seen told after.taken) (seen-tells told after.taken) index_faults (λ o h. h) refl Rest _ t.0 c.in-Some.walked c.walk_answer.result _ c.answer_of.result _ _ t.1 t.2 refl
    c.walk_answer.ensures (search rules) counts ends.halted)
