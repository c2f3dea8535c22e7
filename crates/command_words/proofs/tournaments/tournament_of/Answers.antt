use Rattle.std.proofs.Common.{◌≡◌, ◌∙◌, ap, sym, subst, map, codes, MatchOption, IsTrue, rules}
use Rattle.std.specs.Prelude.{string_bytes}
use Rattle.option_words.specs.Options.{Gives, value_at}
use Rattle.command_words.specs.Engines.{ArePrograms}
use Rattle.command_words.specs.Tournaments.{AreTournamentWords, ChooseTournament, TournamentOptions, tournament_choices, tournament_options}
use Rattle.command_words.proofs.GivenLemmas.{none_given, some_given, values_are}
use Rattle.command_words.proofs.MatchLemmas.{value_read, weaker}
use Rattle.command_words.proofs.TournamentLemmas.{asked, choose, tournament_read}
use Rattle.command_words.proofs.tournaments.tournament_of.Goals as goal

pub returns-in_default-clause-only : goal.returns-in_default-clause-only
returns-in_default-clause-only c = λ s r g n p w.
    absurd (subst (λ o. MatchOption o ⊥ (λ given. given ≡ asked w.options)) c.in_default.is (c.in_ok-given.ensures.only (asked w.options) w.options.give))

pub returns-in_default-value-clause-only : goal.returns-in_default-value-clause-only
returns-in_default-value-clause-only c = λ s r g n p w.
    let values = values_are c.in-Some.is (c.in_ok-given.ensures.only (asked w.options) w.options.give) in
    absurd (none_given c.value.result w.options.engines c.in_default-value.is (c.value.ensures ∙ ap (λ given. value_at given 0) values))

pub returns-then-not-branch-clause-only : goal.returns-then-not-branch-clause-only
returns-then-not-branch-clause-only c = λ s r g n p w.
    let values = values_are c.in-Some.is (c.in_ok-given.ensures.only (asked w.options) w.options.give) in
    let engines = some_given c.value.result c.in-Some-value.engines w.options.engines c.in-Some-value.is (c.value.ensures ∙ ap (λ given. value_at given 0) values) in
    let are : IsTrue c.in_ok-are_programs.field-0 = c.in_ok-are_programs.ensures.1 (subst (ArePrograms 64) (sym engines) w.programs) in
    let are_not = c.if-not-branch.true in
    absurd (cc)

pub returns-clause-only : goal.returns-clause-only
returns-clause-only c = λ s r g n p w.
    let values = values_are c.in-Some.is (c.in_ok-given.ensures.only (asked w.options) w.options.give) in
    c.tournament_in.ensures.only s r g n p (subst (λ v. ChooseTournament v s r g n p) (sym values) (choose w))

pub returns-clause-found : goal.returns-clause-found
returns-clause-found c =
    let gives = rw c.in-Some.is at c.in_ok-given.ensures.values in
    let first = value_read c.value.result c.in-Some-value.engines _ c.in-Some-value.is c.value.ensures in
    let same = tournament_read _ gives.items c.in-Some-value.engines.now gives.values_are first in
    let options : TournamentOptions c.args.words.now = record {
      engines = c.in-Some-value.engines.now;
      choices = tournament_choices c.in-Some.given;
      rounds = value_at c.in-Some.given 9;
      at_once = value_at c.in-Some.given 10;
      gauntlet = value_at c.in-Some.given 11;
      resume = value_at c.in-Some.given 12;
      give = subst (Gives (map string_bytes c.args.words.now) (codes "tournament") tournament_options) same gives;
    } in
    weaker c.tournament_in.result (λ t. ChooseTournament c.in-Some.given t.setup t.rounds t.gauntlet t.at_once t.resume) (λ t. AreTournamentWords c.args.words.now t.setup t.rounds t.gauntlet t.at_once t.resume)
    (λ t is. record {
      options = options;
      programs = search rules;
      setup_is = is.setup_is;
      rounds_is = is.rounds_is;
      at_once_is = is.at_once_is;
      gauntlet_is = is.gauntlet_is;
      resume_is = is.resume_is;
    }) c.tournament_in.ensures.found
