use Rattle.std.proofs.Common.{◌≡◌, ◌∙◌, ap, sym, subst, MatchOption}
use Rattle.std.proofs.lemmas.Option.{none-some}
use Rattle.option_words.specs.Options.{value_at}
use Rattle.command_words.specs.Cups.{cup_values}
use Rattle.command_words.proofs.MatchLemmas.{cared}
use Rattle.command_words.proofs.cups.cup_care.Goals as goal

pub unreachable-requires : goal.unreachable-requires
unreachable-requires c =
    let w = c.requires.words in
    let asked = cup_values w.options.engines w.options.game_type w.options.depth w.options.plies w.options.patience w.options.quiet in
    subst (λ o. MatchOption o ⊥ (λ given. given ≡ asked)) c.in_default.is (c.in_ok-given.ensures.only asked w.options.give)

pub unreachable-requires-in_default-care_at : goal.unreachable-requires-in_default-care_at
unreachable-requires-in_default-care_at c =
    let w = c.requires.words in
    let asked = cup_values w.options.engines w.options.game_type w.options.depth w.options.plies w.options.patience w.options.quiet in
    let values = subst (λ o. MatchOption o ⊥ (λ given. given ≡ asked)) c.in-Some.is (c.in_ok-given.ensures.only asked w.options.give) in
    let at4 = c.value.ensures ∙ ap (λ given. value_at given 4) values in
    let at5 = c.value-2.ensures ∙ ap (λ given. value_at given 5) values in
    let is = cared _ _ _ _ c.args.setup.level w.setup_is.care (sym at4) (sym at5) w.setup_is.care_is in
    none-some _ (sym c.in_default-care_at.is ∙ c.care_at.ensures.only w.setup_is.care is)

pub returns : goal.returns
returns c =
    let w = c.requires.words in
    let asked = cup_values w.options.engines w.options.game_type w.options.depth w.options.plies w.options.patience w.options.quiet in
    let values = subst (λ o. MatchOption o ⊥ (λ given. given ≡ asked)) c.in-Some.is (c.in_ok-given.ensures.only asked w.options.give) in
    let at4 = c.value.ensures ∙ ap (λ given. value_at given 4) values in
    let at5 = c.value-2.ensures ∙ ap (λ given. value_at given 5) values in
    (w, cared _ _ _ _ c.args.setup.level c.in-Some-care_at.care at4 at5 (rw c.in-Some-care_at.is at c.care_at.ensures.found))
