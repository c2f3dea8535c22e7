use Rattle.std.proofs.Common.{◌≡◌, ◌∙◌, ap, sym, subst, MatchOption, IsTrue, rules, option_map, Bor, List, ℕ}
use Rattle.option_words.specs.Options.{value_at}
use Rattle.command_words.specs.Cups.{AreCupWords, CupOptions, chosen, cup_choices, cup_values}
use Rattle.command_words.specs.Engines.{ArePrograms}
use Rattle.command_words.specs.Matches.{IsSetupOf}
use Rattle.command_words.proofs.GivenLemmas.{none_given, some_given}
use Rattle.command_words.proofs.MatchLemmas.{weaker}
use Rattle.command_words.proofs.cups.cup_of.Goals as goal

pub returns-in_default-clause-only : goal.returns-in_default-clause-only
returns-in_default-clause-only c = λ s w.
    let asked = cup_values w.options.engines w.options.game_type w.options.depth w.options.plies w.options.patience w.options.quiet in
    absurd (subst (λ o. MatchOption o ⊥ (λ given. given ≡ asked)) c.in_default.is (c.in_ok-given.ensures.only asked w.options.give))

pub returns-in_default-value-clause-only : goal.returns-in_default-value-clause-only
returns-in_default-value-clause-only c = λ s w.
    let asked = cup_values w.options.engines w.options.game_type w.options.depth w.options.plies w.options.patience w.options.quiet in
    let values = subst (λ o. MatchOption o ⊥ (λ given. given ≡ asked)) c.in-Some.is (c.in_ok-given.ensures.only asked w.options.give) in
    absurd (none_given c.value.result w.options.engines c.in_default-value.is (c.value.ensures ∙ ap (λ given. value_at given 0) values))

pub returns-then-not-branch-clause-only : goal.returns-then-not-branch-clause-only
returns-then-not-branch-clause-only c = λ s w.
    let asked = cup_values w.options.engines w.options.game_type w.options.depth w.options.plies w.options.patience w.options.quiet in
    let values = subst (λ o. MatchOption o ⊥ (λ given. given ≡ asked)) c.in-Some.is (c.in_ok-given.ensures.only asked w.options.give) in
    let engines = some_given c.value.result c.in-Some-value.engines w.options.engines c.in-Some-value.is (c.value.ensures ∙ ap (λ given. value_at given 0) values) in
    let are : IsTrue c.in_ok-are_programs.field-0 = c.in_ok-are_programs.ensures.1 (subst (ArePrograms 8) (sym engines) w.programs) in
    let are_not = c.if-not-branch.true in
    absurd (cc)

pub returns-clause-only : goal.returns-clause-only
returns-clause-only c = λ s w.
    let asked = cup_values w.options.engines w.options.game_type w.options.depth w.options.plies w.options.patience w.options.quiet in
    let values = subst (λ o. MatchOption o ⊥ (λ given. given ≡ asked)) c.in-Some.is (c.in_ok-given.ensures.only asked w.options.give) in
    let at1 = c.value-2.ensures ∙ ap (λ given. value_at given 1) values in
    let at2 = c.value-3.ensures ∙ ap (λ given. value_at given 2) values in
    let at3 = c.value-4.ensures ∙ ap (λ given. value_at given 3) values in
    let at4 = c.value-5.ensures ∙ ap (λ given. value_at given 4) values in
    let at5 = c.value-6.ensures ∙ ap (λ given. value_at given 5) values in
    let same : cup_choices _ _ _ _ _ ≡ chosen w.options = λ j. cup_choices (at1 j) (at2 j) (at3 j) (at4 j) (at5 j) in
    c.setup_of.ensures.only s (subst (λ k. IsSetupOf k s) (sym same) w.setup_is)

pub returns-clause-found : goal.returns-clause-found
returns-clause-found c =
    let options : CupOptions c.args.words.now = record {
      engines = c.in-Some-value.engines.now;
      game_type = option_map (λ (r : Bor (List ℕ)). r.now) c.value-2.result;
      depth = option_map (λ (r : Bor (List ℕ)). r.now) c.value-3.result;
      plies = option_map (λ (r : Bor (List ℕ)). r.now) c.value-4.result;
      patience = option_map (λ (r : Bor (List ℕ)). r.now) c.value-5.result;
      quiet = option_map (λ (r : Bor (List ℕ)). r.now) c.value-6.result;
      give = search rules;
    } in
    weaker c.setup_of.result (IsSetupOf (chosen options)) (AreCupWords c.args.words.now) (λ s is. record {
      options = options;
      programs = search rules;
      setup_is = is;
    }) c.setup_of.ensures.found
