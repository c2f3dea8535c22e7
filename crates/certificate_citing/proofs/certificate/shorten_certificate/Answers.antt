use Rattle.std.proofs.Common.{ℕ, subst, rules, [], ◌≡◌, Some, refl, ap, ◌∙◌}
use Rattle.hive_model.specs.Histories.{position}
use Rattle.certificate_walks.specs.Ends.{EndsItems}
use Rattle.certificate_walks.proofs.EndLaws.{checks-items, ends-unread}
use Rattle.strategy_check.specs.Checks.{index_faults}
use Rattle.strategy_check.specs.Trace.{steps}
use Rattle.strategy_lemmas.specs.Short.{short_steps, shortened}
use Rattle.certificate_citing.specs.declared.draft.Draft.{Draft}
use Rattle.certificate_citing.specs.Shortening.{draft_of}
use Rattle.certificate_citing.specs.ShortTaking.{of_short_walk, short_moment}
use Rattle.certificate_citing.proofs.ShortWalks.{seen-is, taking-is}
use Rattle.certificate_citing.proofs.EndWalks.{certificate-shortened, certificate-counts, certificate-unread}
use Rattle.certificate_citing.proofs.certificate.shorten_certificate.Goals as goal

pub returns-clause-told : goal.returns-clause-told
returns-clause-told g c = λ items e.
    let begun = short_steps (steps items 0) [] [] in
    let walk = c.new-walker.result in
    let t = c.in-Some.ensures.told begun (seen-is _ (Some items) walk.draft.now (draft_of begun) (ap (λ x. (g.I.Items.supply x).left) c.new-walker.ensures.same_indices ∙ e) (c.new-walker.ensures.same_draft ∙ c.requires.empty)) in
    let ends : Some c.in_ok-walked.walked ≡ of_short_walk c.in-Some.walked = search rules in
    certificate-shortened _ _ _ t.0 c.in-Some.walked c.in_ok-walked.walked _ c.answer_of.result t.1 t.2 (seen-is _ _ _ _ (search rules) (search rules)) ends c.answer_of.ensures.whole c.answer_of.ensures.done

pub returns-clause-items : goal.returns-clause-items
returns-clause-items g c =
    let supply = g.I.Items.supply in
    let claim = c.args.claim.now in
    let begun = c.new-walker.result in
    let after = c.walk_certificate.new.walker in
    let walked = c.in_ok-walked.walked in
    let shown : Some walked ≡ of_short_walk c.in-Some.walked = search rules in
    let part = taking-is (short_moment supply) c.in-Some.walked (Some walked) begun after shown c.in-Some.ensures.part in
    let ends : EndsItems index_faults walked after.draft.now.taken c.answer_of.result (supply after.indices.now) (supply c.answer_of.new.items) =
    subst (λ (n : ℕ). EndsItems index_faults walked n c.answer_of.result (supply after.indices.now) (supply c.answer_of.new.items)) (search rules)
    (subst (λ x. EndsItems index_faults walked c.draft-1.given.0.taken c.answer_of.result (supply x) (supply c.answer_of.new.items)) (search rules) c.answer_of.ensures.items) in
    checks-items supply index_faults (shortened (position (g.G.Game.history c.args.game.now)) claim.depth claim.best claim.value) walked c.answer_of.result c.args.indices.now begun.indices.now after.indices.now c.answer_of.new.items _ _ begun.draft.now.taken after.draft.now.taken
    c.new-walker.ensures.same_indices (ap (λ (d : Draft). d.taken) (c.new-walker.ensures.same_draft ∙ c.requires.empty)) part ends (λ items e counts.
    let start = short_steps (steps items 0) [] [] in
    let t = c.in-Some.ensures.told start
    (seen-is _ (Some items) begun.draft.now (draft_of start) (ap (λ x. (supply x).left) c.new-walker.ensures.same_indices ∙ e) (c.new-walker.ensures.same_draft ∙ c.requires.empty)) in
    certificate-counts (supply after.indices.now).left after.draft.now _ t.0 c.in-Some.walked walked _ c.answer_of.result t.1 t.2 refl shown (search rules) _ _ counts (ends.halted _))

pub returns-clause-unread : goal.returns-clause-unread
returns-clause-unread g c =
    let supply = g.I.Items.supply in
    let claim = c.args.claim.now in
    let begun = c.new-walker.result in
    let after = c.walk_certificate.new.walker in
    let walked = c.in_ok-walked.walked in
    let shown : Some walked ≡ of_short_walk c.in-Some.walked = search rules in
    let part = taking-is (short_moment supply) c.in-Some.walked (Some walked) begun after shown c.in-Some.ensures.part in
    let ends : EndsItems index_faults walked after.draft.now.taken c.answer_of.result (supply after.indices.now) (supply c.answer_of.new.items) =
    subst (λ (n : ℕ). EndsItems index_faults walked n c.answer_of.result (supply after.indices.now) (supply c.answer_of.new.items)) (search rules)
    (subst (λ x. EndsItems index_faults walked c.draft-1.given.0.taken c.answer_of.result (supply x) (supply c.answer_of.new.items)) (search rules) c.answer_of.ensures.items) in
    ends-unread supply index_faults (shortened (position (g.G.Game.history c.args.game.now)) claim.depth claim.best claim.value) walked c.answer_of.result c.args.indices.now begun.indices.now after.indices.now c.answer_of.new.items _ _ begun.draft.now.taken after.draft.now.taken
    c.new-walker.ensures.same_indices (ap (λ (d : Draft). d.taken) (c.new-walker.ensures.same_draft ∙ c.requires.empty)) part (λ items e counts.
    let start = short_steps (steps items 0) [] [] in
    let t = c.in-Some.ensures.told start
    (seen-is _ (Some items) begun.draft.now (draft_of start) (ap (λ x. (supply x).left) c.new-walker.ensures.same_indices ∙ e) (c.new-walker.ensures.same_draft ∙ c.requires.empty)) in
    certificate-unread (supply after.indices.now).left after.draft.now _ t.0 c.in-Some.walked walked _ c.answer_of.result t.1 t.2 refl shown (search rules) _ _ counts ends.halted)
