use Rattle.std.proofs.Common.{◌≡◌, ◌∙◌, ap, sym, subst, map, codes, MatchOption, refl, true, false, Bor, List, ℕ, Option, option_map}
use Rattle.std.specs.Prelude.{string_bytes}
use Rattle.option_words.specs.Options.{Gives, value_at}
use Rattle.command_words.specs.Matches.{AreMatchWords, IsMatchOf, IsProgram, choices_of, match_choices, match_options, match_values}
use Rattle.command_words.proofs.GivenLemmas.{none_given, some_given}
use Rattle.command_words.proofs.MatchLemmas.{value_read, values_read, weaker}
use Rattle.command_words.proofs.matched.match_of.Goals as goal

false_true : false ≡ true → ⊥
false_true e = cc

pub returns-in_default-clause-only : goal.returns-in_default-clause-only
returns-in_default-clause-only c = λ s f w.
    absurd (subst (λ o. MatchOption o ⊥ (λ given. given ≡ match_values w.white w.black w.choices w.from_text)) c.in_default.is (c.in_ok-given.ensures.only (match_values w.white w.black w.choices w.from_text) w.give))

pub returns-in_default-value-clause-only : goal.returns-in_default-value-clause-only
returns-in_default-value-clause-only c = λ s f w.
    let values = subst (λ o. MatchOption o ⊥ (λ given. given ≡ match_values w.white w.black w.choices w.from_text)) c.in-Some.is (c.in_ok-given.ensures.only (match_values w.white w.black w.choices w.from_text) w.give) in
    absurd (none_given c.value.result w.white c.in_default-value.is (c.value.ensures ∙ ap (λ given. value_at given 0) values))

pub returns-in_default-value-2-clause-only : goal.returns-in_default-value-2-clause-only
returns-in_default-value-2-clause-only c = λ s f w.
    let values = subst (λ o. MatchOption o ⊥ (λ given. given ≡ match_values w.white w.black w.choices w.from_text)) c.in-Some.is (c.in_ok-given.ensures.only (match_values w.white w.black w.choices w.from_text) w.give) in
    absurd (none_given c.value-2.result w.black c.in_default-value-2.is (c.value-2.ensures ∙ ap (λ given. value_at given 1) values))

pub returns-then-not-is_program-clause-only : goal.returns-then-not-is_program-clause-only
returns-then-not-is_program-clause-only c = λ s f w.
    let values = subst (λ o. MatchOption o ⊥ (λ given. given ≡ match_values w.white w.black w.choices w.from_text)) c.in-Some.is (c.in_ok-given.ensures.only (match_values w.white w.black w.choices w.from_text) w.give) in
    let white = some_given c.value.result c.in-Some-value.white w.white c.in-Some-value.is (c.value.ensures ∙ ap (λ given. value_at given 0) values) in
    absurd (false_true (c.if-not-is_program.ensures.1 (subst IsProgram (sym white) w.white_is)))

pub returns-then-not-is_program-2-clause-only : goal.returns-then-not-is_program-2-clause-only
returns-then-not-is_program-2-clause-only c = λ s f w.
    let values = subst (λ o. MatchOption o ⊥ (λ given. given ≡ match_values w.white w.black w.choices w.from_text)) c.in-Some.is (c.in_ok-given.ensures.only (match_values w.white w.black w.choices w.from_text) w.give) in
    let black = some_given c.value-2.result c.in-Some-value-2.black w.black c.in-Some-value-2.is (c.value-2.ensures ∙ ap (λ given. value_at given 1) values) in
    absurd (false_true (c.if-not-is_program-2.ensures.1 (subst IsProgram (sym black) w.black_is)))

pub returns-clause-found : goal.returns-clause-found
returns-clause-found c =
    let choices = choices_of c.choices_in.result in
    let from : Option (List ℕ) = option_map (λ (r : Bor (List ℕ)). r.now) c.value-3.result in
    let gives = rw c.in-Some.is at c.in_ok-given.ensures.values in
    let white = value_read c.value.result c.in-Some-value.white _ c.in-Some-value.is c.value.ensures in
    let black = value_read c.value-2.result c.in-Some-value-2.black _ c.in-Some-value-2.is c.value-2.ensures in
    let read = values_read _ gives.items c.in-Some-value.white.now c.in-Some-value-2.black.now gives.values_are white black in
    let same = read ∙ (λ j. match_values c.in-Some-value.white.now c.in-Some-value-2.black.now (sym c.choices_in.ensures j) (sym c.value-3.ensures j)) in
    weaker c.match_in.result (λ m. IsMatchOf choices from m.setup m.from) (λ m. AreMatchWords c.args.words.now m.setup m.from) (λ m is. record {
      white = c.in-Some-value.white.now;
      black = c.in-Some-value-2.black.now;
      choices = choices;
      from_text = from;
      give = subst (Gives (map string_bytes c.args.words.now) (codes "match") match_options) same gives;
      white_is = c.if-not-is_program.ensures.0 refl;
      black_is = c.if-not-is_program-2.ensures.0 refl;
      match_is = is;
    }) c.match_in.ensures.found

pub returns-clause-only : goal.returns-clause-only
returns-clause-only c = λ s f w.
    let values = subst (λ o. MatchOption o ⊥ (λ given. given ≡ match_values w.white w.black w.choices w.from_text)) c.in-Some.is (c.in_ok-given.ensures.only (match_values w.white w.black w.choices w.from_text) w.give) in
    let same : choices_of c.choices_in.result ≡ w.choices = c.choices_in.ensures ∙ ap match_choices values in
    let from : option_map (λ (r : Bor (List ℕ)). r.now) c.value-3.result ≡ w.from_text = c.value-3.ensures ∙ ap (λ given. value_at given 10) values in
    c.match_in.ensures.only s f (subst (λ k. IsMatchOf k _ s f) (sym same) (subst (λ t. IsMatchOf w.choices t s f) (sym from) w.match_is))
