use Rattle.std.proofs.Common.{◌≡◌, ◌∙◌, ap, subst, MatchOption}
use Rattle.option_words.specs.Options.{value_at}
use Rattle.command_words.specs.Audits.{audit_values}
use Rattle.command_words.proofs.GivenLemmas.{none_given, some_given, values_are}
use Rattle.command_words.proofs.audits.texts_of.Goals as goal

pub returns-in_default-clause-only : goal.returns-in_default-clause-only
returns-in_default-clause-only c = λ options give.
    subst (λ o. MatchOption o ⊥ (λ given. given ≡ audit_values options)) c.in_default.is (c.in_ok-given.ensures.only (audit_values options) give)

pub returns-in_default-value-clause-only : goal.returns-in_default-value-clause-only
returns-in_default-value-clause-only c = λ options give.
    let values = values_are c.in-Some.is (c.in_ok-given.ensures.only (audit_values options) give) in
    none_given c.value.result options.engine c.in_default-value.is (c.value.ensures ∙ ap (λ given. value_at given 0) values)

pub returns-in_default-value-2-clause-only : goal.returns-in_default-value-2-clause-only
returns-in_default-value-2-clause-only c = λ options give.
    let values = values_are c.in-Some.is (c.in_ok-given.ensures.only (audit_values options) give) in
    none_given c.value-2.result options.games c.in_default-value-2.is (c.value-2.ensures ∙ ap (λ given. value_at given 1) values)

pub returns-in_default-value-3-clause-only : goal.returns-in_default-value-3-clause-only
returns-in_default-value-3-clause-only c = λ options give.
    let values = values_are c.in-Some.is (c.in_ok-given.ensures.only (audit_values options) give) in
    none_given c.value-3.result options.seed c.in_default-value-3.is (c.value-3.ensures ∙ ap (λ given. value_at given 2) values)

pub returns-clause-only : goal.returns-clause-only
returns-clause-only c = λ options give.
    let values = values_are c.in-Some.is (c.in_ok-given.ensures.only (audit_values options) give) in
    let engine = some_given c.value.result c.in-Some-value.engine options.engine c.in-Some-value.is (c.value.ensures ∙ ap (λ given. value_at given 0) values) in
    let games = some_given c.value-2.result c.in-Some-value-2.games options.games c.in-Some-value-2.is (c.value-2.ensures ∙ ap (λ given. value_at given 1) values) in
    let seed = some_given c.value-3.result c.in-Some-value-3.seed options.seed c.in-Some-value-3.is (c.value-3.ensures ∙ ap (λ given. value_at given 2) values) in
    let plies = c.value-4.ensures ∙ ap (λ given. value_at given 3) values in
    let kind = c.value-5.ensures ∙ ap (λ given. value_at given 4) values in
    let patience = c.value-6.ensures ∙ ap (λ given. value_at given 5) values in
    let quiet = c.value-7.ensures ∙ ap (λ given. value_at given 6) values in
    let stop = c.value-8.ensures ∙ ap (λ given. value_at given 7) values in
    let first = c.value-9.ensures ∙ ap (λ given. value_at given 8) values in
    let most = c.value-10.ensures ∙ ap (λ given. value_at given 9) values in
    λ j. record {
      engine = engine j;
      games = games j;
      seed = seed j;
      plies = plies j;
      game_type = kind j;
      patience = patience j;
      quiet = quiet j;
      stop = stop j;
      first = first j;
      most = most j;
    }
