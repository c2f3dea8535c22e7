use Rattle.std.proofs.Common.{◌≡◌, ◌∙◌, ap, sym, subst, MatchOption}
use Rattle.std.proofs.lemmas.Option.{none-some}
use Rattle.command_words.specs.Matches.{IsCareOf, choices_of, match_choices, match_values}
use Rattle.command_words.proofs.matched.match_care.Goals as goal

pub unreachable-requires : goal.unreachable-requires
unreachable-requires c =
    let w = c.requires.words in
    subst (λ o. MatchOption o ⊥ (λ given. given ≡ match_values w.white w.black w.choices w.from_text)) c.in_default.is (c.in_ok-given.ensures.only (match_values w.white w.black w.choices w.from_text) w.give)

pub unreachable-requires-in_default-care_at : goal.unreachable-requires-in_default-care_at
unreachable-requires-in_default-care_at c =
    let w = c.requires.words in
    let values = subst (λ o. MatchOption o ⊥ (λ given. given ≡ match_values w.white w.black w.choices w.from_text)) c.in-Some.is (c.in_ok-given.ensures.only (match_values w.white w.black w.choices w.from_text) w.give) in
    let same : choices_of c.choices_in-texts.result ≡ w.choices = c.choices_in-texts.ensures ∙ ap match_choices values in
    let is = subst (λ k. IsCareOf k.patience k.quiet c.args.setup.level w.match_is.setup_is.care) (sym same) w.match_is.setup_is.care_is in
    none-some _ (sym c.in_default-care_at.is ∙ c.care_at.ensures.only w.match_is.setup_is.care is)

pub returns : goal.returns
returns c =
    let w = c.requires.words in
    let values = subst (λ o. MatchOption o ⊥ (λ given. given ≡ match_values w.white w.black w.choices w.from_text)) c.in-Some.is (c.in_ok-given.ensures.only (match_values w.white w.black w.choices w.from_text) w.give) in
    let same : choices_of c.choices_in-texts.result ≡ w.choices = c.choices_in-texts.ensures ∙ ap match_choices values in
    (w, subst (λ k. IsCareOf k.patience k.quiet c.args.setup.level c.in-Some-care_at.care) same (rw c.in-Some-care_at.is at c.care_at.ensures.found))
