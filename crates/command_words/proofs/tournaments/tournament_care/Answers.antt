use Rattle.std.proofs.Common.{◌≡◌, ◌∙◌, ap, sym, subst, MatchOption}
use Rattle.std.proofs.lemmas.Option.{none-some}
use Rattle.command_words.specs.Matches.{IsCareOf, choices_of}
use Rattle.command_words.specs.Tournaments.{tournament_choices}
use Rattle.command_words.proofs.GivenLemmas.{values_are}
use Rattle.command_words.proofs.TournamentLemmas.{asked}
use Rattle.command_words.proofs.tournaments.tournament_care.Goals as goal

pub unreachable-requires : goal.unreachable-requires
unreachable-requires c =
    let w = c.requires.words in
    subst (λ o. MatchOption o ⊥ (λ given. given ≡ asked w.options)) c.in_default.is (c.in_ok-given.ensures.only (asked w.options) w.options.give)

pub unreachable-requires-in_default-care_at : goal.unreachable-requires-in_default-care_at
unreachable-requires-in_default-care_at c =
    let w = c.requires.words in
    let values = values_are c.in-Some.is (c.in_ok-given.ensures.only (asked w.options) w.options.give) in
    let same : choices_of c.choices_in-texts.result ≡ w.options.choices = c.choices_in-texts.ensures ∙ ap tournament_choices values in
    let is = subst (λ k. IsCareOf k.patience k.quiet c.args.asked.setup.level w.setup_is.care) (sym same) w.setup_is.care_is in
    none-some _ (sym c.in_default-care_at.is ∙ c.care_at.ensures.only w.setup_is.care is)

pub returns : goal.returns
returns c =
    let w = c.requires.words in
    let values = values_are c.in-Some.is (c.in_ok-given.ensures.only (asked w.options) w.options.give) in
    let same : choices_of c.choices_in-texts.result ≡ w.options.choices = c.choices_in-texts.ensures ∙ ap tournament_choices values in
    (w, subst (λ k. IsCareOf k.patience k.quiet c.args.asked.setup.level c.in-Some-care_at.care) same (rw c.in-Some-care_at.is at c.care_at.ensures.found))
