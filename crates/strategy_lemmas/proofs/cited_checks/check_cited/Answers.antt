use Rattle.std.proofs.Common.{subst, [], rules, refl}
use Rattle.hive_model.specs.Histories.{position}
use Rattle.certificate_walks.proofs.ItemLaws.{taking-is}
use Rattle.certificate_walks.specs.Ends.{EndsItems}
use Rattle.certificate_walks.proofs.EndLaws.{certificate-answers, certificate-counts, certificate-unread, checks-items, ends-unread}
use Rattle.strategy_lemmas.specs.declared.tokens.WhyCited.TheVariants.{LeafFails, BadIndex, Rest}
use Rattle.strategy_lemmas.specs.Cited.{cite_rules, cited_checked, cited_steps}
use Rattle.strategy_lemmas.specs.CitedChecks.{cited_faults, cited_sight, cited_seen}
use Rattle.strategy_lemmas.specs.CitedTaking.{cited_moment}
use Rattle.strategy_lemmas.proofs.CiteWalks.{leaf-inner, place-inner, seen-tells}
use Rattle.strategy_lemmas.proofs.cited_checks.check_cited.Goals as goal

pub returns-in-Some-clause-told : goal.returns-in-Some-clause-told
returns-in-Some-clause-told g c = λ items e.
    let t = c.in-Some.ensures.told (cited_steps items 0 []) (search rules) in
    let after = c.walk_certificate-walked.new.walker in
    let told = (g.T.Items.supply after.tokens.now).left in
    let shown = after.lemmas.now in
    certificate-answers cite_rules cited_sight told after.taken (cited_seen told after.taken shown) (seen-tells told after.taken shown) Rest _ t.0 c.in-Some.walked c.walk_answer.result _ c.answer_of.result refl t.1 t.2 refl
    c.walk_answer.ensures (search rules)

pub returns-in-Some-clause-items : goal.returns-in-Some-clause-items
returns-in-Some-clause-items g c =
    let supply = g.T.Items.supply in
    let claim = c.args.claim.now in
    let begun = c.new-walker.result in
    let after = c.walk_certificate-walked.new.walker in
    let told = (supply after.tokens.now).left in
    let shown = after.lemmas.now in
    let part = taking-is cited_faults LeafFails BadIndex leaf-inner place-inner (cited_moment supply) c.in-Some.walked c.walk_answer.result begun after c.walk_answer.ensures c.in-Some.ensures.part in
    let ends : EndsItems cited_faults c.walk_answer.result after.taken c.answer_of.result (supply after.tokens.now) (supply c.answer_of.new.items) =
    subst (λ x. EndsItems cited_faults c.walk_answer.result after.taken c.answer_of.result (supply x) (supply c.answer_of.new.items)) (search rules) c.answer_of.ensures.items in
    checks-items supply cited_faults (cited_checked (position (g.G.Game.history c.args.game.now)) claim.depth claim.best claim.value) c.walk_answer.result c.answer_of.result c.args.tokens.now begun.tokens.now after.tokens.now c.answer_of.new.items _ _ begun.taken after.taken
    c.new-walker.ensures.same_tokens c.new-walker.ensures.taken part ends (λ items e counts.
    let t = c.in-Some.ensures.told (cited_steps items 0 []) (search rules) in
    certificate-counts cite_rules cited_sight told after.taken (cited_seen told after.taken shown) (seen-tells told after.taken shown) Rest _ t.0 c.in-Some.walked c.walk_answer.result _ c.answer_of.result _ _ t.1 t.2 refl
    c.walk_answer.ensures (search rules) counts (ends.halted _))

pub returns-in-Some-clause-unread : goal.returns-in-Some-clause-unread
returns-in-Some-clause-unread g c =
    let supply = g.T.Items.supply in
    let claim = c.args.claim.now in
    let begun = c.new-walker.result in
    let after = c.walk_certificate-walked.new.walker in
    let told = (supply after.tokens.now).left in
    let shown = after.lemmas.now in
    let part = taking-is cited_faults LeafFails BadIndex leaf-inner place-inner (cited_moment supply) c.in-Some.walked c.walk_answer.result begun after c.walk_answer.ensures c.in-Some.ensures.part in
    let ends : EndsItems cited_faults c.walk_answer.result after.taken c.answer_of.result (supply after.tokens.now) (supply c.answer_of.new.items) =
    subst (λ x. EndsItems cited_faults c.walk_answer.result after.taken c.answer_of.result (supply x) (supply c.answer_of.new.items)) (search rules) c.answer_of.ensures.items in
    ends-unread supply cited_faults (cited_checked (position (g.G.Game.history c.args.game.now)) claim.depth claim.best claim.value) c.walk_answer.result c.answer_of.result c.args.tokens.now begun.tokens.now after.tokens.now c.answer_of.new.items _ _ begun.taken after.taken
    c.new-walker.ensures.same_tokens c.new-walker.ensures.taken part (λ items e counts.
    let t = c.in-Some.ensures.told (cited_steps items 0 []) (search rules) in
    certificate-unread cite_rules cited_sight told after.taken (cited_seen told after.taken shown) (seen-tells told after.taken shown) cited_faults (λ o h. h) refl Rest _ t.0 c.in-Some.walked c.walk_answer.result _ c.answer_of.result _ _ t.1 t.2 refl
    c.walk_answer.ensures (search rules) counts ends.halted)
