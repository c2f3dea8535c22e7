-- The match asked for is the only one, and a type besides a given game asks for nothing.
use Rattle.std.proofs.Common.{◌∙◌, sym, Some}
use Rattle.std.proofs.lemmas.Option.{none-some, same_Some}
use Rattle.command_words.proofs.GivenLemmas.{not_none}
use Rattle.command_words.proofs.matched.match_in.Goals as goal

pub returns-in_err-from-clause-only : goal.returns-in_err-from-clause-only
returns-in_err-from-clause-only c = λ s f w. absurd (none-some _ (c.in_err-from.ensures.only f w.from_is))

pub returns-then-is_some-clause-only : goal.returns-then-is_some-clause-only
returns-then-is_some-clause-only c = λ s f w.
    let same = same_Some _ _ (c.in_ok-from.ensures.only f w.from_is) in
    absurd (not_none c.args.texts.game_type (sym c.is_some.ensures ∙ c.if-is_some.true) (w.untyped (sym same ∙ c.if-from.true)))

pub returns-in_err-setup-clause-only : goal.returns-in_err-setup-clause-only
returns-in_err-setup-clause-only c = λ s f w. absurd (none-some _ (c.in_err-setup.ensures.only s w.setup_is))

pub returns-clause-only : goal.returns-clause-only
returns-clause-only c = λ s f w.
    let from = same_Some _ _ (c.in_ok-from.ensures.only f w.from_is) in
    let setup = same_Some _ _ (c.in_ok-setup.ensures.only s w.setup_is) in
    λ j. Some (record { setup = setup j; from = from j })
