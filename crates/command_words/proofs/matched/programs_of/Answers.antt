use Rattle.std.proofs.Common.{◌≡◌, ◌∙◌, ◌<◌, ap, subst, length, map, codes, MatchOption}
use Rattle.std.proofs.lemmas.Result.{IfOk-weaker}
use Rattle.std.specs.Prelude.{string_bytes}
use Rattle.option_words.specs.Options.{Gives, value_at}
use Rattle.command_words.specs.declared.matched.Programs.{Programs}
use Rattle.command_words.specs.Matches.{AskForPrograms, Choices, between_spaces, match_choices, match_options, match_values}
use Rattle.command_words.proofs.GivenLemmas.{none_given}
use Rattle.command_words.proofs.MatchLemmas.{both-ok, value_read, values_read}
use Rattle.command_words.proofs.ProgramLaws.{words-some}
use Rattle.command_words.proofs.matched.programs_of.Goals as goal

pub unreachable-requires : goal.unreachable-requires
unreachable-requires c =
    let (s, f, w) = c.requires in
    subst (λ o. MatchOption o ⊥ (λ given. given ≡ match_values w.white w.black w.choices w.from_text)) c.in_default.is (c.in_ok-given.ensures.only (match_values w.white w.black w.choices w.from_text) w.give)

pub unreachable-requires-in_default-value : goal.unreachable-requires-in_default-value
unreachable-requires-in_default-value c =
    let (s, f, w) = c.requires in
    let values = subst (λ o. MatchOption o ⊥ (λ given. given ≡ match_values w.white w.black w.choices w.from_text)) c.in-Some.is (c.in_ok-given.ensures.only (match_values w.white w.black w.choices w.from_text) w.give) in
    none_given c.value.result w.white c.in_default-value.is (c.value.ensures ∙ ap (λ given. value_at given 0) values)

pub unreachable-requires-in_default-value-2 : goal.unreachable-requires-in_default-value-2
unreachable-requires-in_default-value-2 c =
    let (s, f, w) = c.requires in
    let values = subst (λ o. MatchOption o ⊥ (λ given. given ≡ match_values w.white w.black w.choices w.from_text)) c.in-Some.is (c.in_ok-given.ensures.only (match_values w.white w.black w.choices w.from_text) w.give) in
    none_given c.value-2.result w.black c.in_default-value-2.is (c.value-2.ensures ∙ ap (λ given. value_at given 1) values)

pub returns-clause-white : goal.returns-clause-white
returns-clause-white c =
    IfOk-weaker c.programs_in.result (λ (p : Programs). map string_bytes p.white.items ≡ between_spaces c.in-Some-value.white.now) (λ (p : Programs). 0 < length p.white.items)
    (λ p e. words-some p.white.items c.in-Some-value.white.now e) c.programs_in.ensures.white

pub returns-clause-black : goal.returns-clause-black
returns-clause-black c =
    IfOk-weaker c.programs_in.result (λ (p : Programs). map string_bytes p.black.items ≡ between_spaces c.in-Some-value-2.black.now) (λ (p : Programs). 0 < length p.black.items)
    (λ p e. words-some p.black.items c.in-Some-value-2.black.now e) c.programs_in.ensures.black

pub returns-clause-programs : goal.returns-clause-programs
returns-clause-programs c =
    let gives = rw c.in-Some.is at c.in_ok-given.ensures.values in
    let choices : Choices = match_choices c.in-Some.given in
    let white = value_read c.value.result c.in-Some-value.white _ c.in-Some-value.is c.value.ensures in
    let black = value_read c.value-2.result c.in-Some-value-2.black _ c.in-Some-value-2.is c.value-2.ensures in
    let same = values_read c.in-Some.given gives.items c.in-Some-value.white.now c.in-Some-value-2.black.now gives.values_are white black in
    both-ok c.programs_in.result (λ (p : Programs). map string_bytes p.white.items ≡ between_spaces c.in-Some-value.white.now) (λ (p : Programs). map string_bytes p.black.items ≡ between_spaces c.in-Some-value-2.black.now)
    (λ (p : Programs). AskForPrograms c.args.words.now (map string_bytes p.white.items) (map string_bytes p.black.items)) (λ p w b. record {
      white_text = c.in-Some-value.white.now;
      black_text = c.in-Some-value-2.black.now;
      choices = choices;
      from_text = value_at c.in-Some.given 10;
      give = subst (Gives (map string_bytes c.args.words.now) (codes "match") match_options) same gives;
      white_is = w;
      black_is = b;
    }) c.programs_in.ensures.white c.programs_in.ensures.black
