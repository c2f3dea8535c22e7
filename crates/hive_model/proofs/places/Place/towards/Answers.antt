use Rattle.std.proofs.Common.{sym, ◌∙◌}
use Rattle.hive_model.proofs.PlaceLemmas.{same_place}
use Rattle.hive_model.proofs.places.Place.towards.Goals as goal

pub returns-then-is-3-clause-some : goal.returns-then-is-3-clause-some
returns-then-is-3-clause-some c = sym c.step-3.ensures ∙ same_place c.step-3.result c.args.other (sym c.is-3.ensures ∙ c.if-is-3.true)

pub returns-then-is-4-clause-some : goal.returns-then-is-4-clause-some
returns-then-is-4-clause-some c = sym c.step-4.ensures ∙ same_place c.step-4.result c.args.other (sym c.is-4.ensures ∙ c.if-is-4.true)

pub returns-then-is-5-clause-some : goal.returns-then-is-5-clause-some
returns-then-is-5-clause-some c = sym c.step-5.ensures ∙ same_place c.step-5.result c.args.other (sym c.is-5.ensures ∙ c.if-is-5.true)

pub returns-then-is-6-clause-some : goal.returns-then-is-6-clause-some
returns-then-is-6-clause-some c = sym c.step-6.ensures ∙ same_place c.step-6.result c.args.other (sym c.is-6.ensures ∙ c.if-is-6.true)
