use Rattle.std.proofs.Common.{◌≡◌, ◌≤◌, ◌∙◌, rules, ap, subst, length, map, MatchOption}
use Rattle.std.proofs.lemmas.Result.{IfOk-weaker}
use Rattle.option_words.specs.Options.{value_at}
use Rattle.command_words.specs.Cups.{AskForEngines, CupOptions, cup_values}
use Rattle.command_words.specs.Engines.{engine_of, program_texts}
use Rattle.command_words.proofs.EngineLemmas.{engines_few, engines_some, text_read}
use Rattle.command_words.proofs.GivenLemmas.{none_given}
use Rattle.command_words.proofs.cups.engines_of.Goals as goal

pub unreachable-requires : goal.unreachable-requires
unreachable-requires c =
    let (s, w) = c.requires in
    let asked = cup_values w.options.engines w.options.game_type w.options.depth w.options.plies w.options.patience w.options.quiet in
    subst (λ o. MatchOption o ⊥ (λ given. given ≡ asked)) c.in_default.is (c.in_ok-given.ensures.only asked w.options.give)

pub unreachable-requires-in_default-value : goal.unreachable-requires-in_default-value
unreachable-requires-in_default-value c =
    let (s, w) = c.requires in
    let asked = cup_values w.options.engines w.options.game_type w.options.depth w.options.plies w.options.patience w.options.quiet in
    let values = subst (λ o. MatchOption o ⊥ (λ given. given ≡ asked)) c.in-Some.is (c.in_ok-given.ensures.only asked w.options.give) in
    none_given c.value.result w.options.engines c.in_default-value.is (c.value.ensures ∙ ap (λ given. value_at given 0) values)

pub returns-clause-some : goal.returns-clause-some
returns-clause-some c =
    let (s, w) = c.requires in
    let read = text_read w.options.engines _ c.in-Some.is (c.in_ok-given.ensures.only _ w.options.give) c.in-Some-value.is c.value.ensures in
    IfOk-weaker c.programs_in.result (λ e. e.items ≡ map engine_of (program_texts c.in-Some-value.engines.now)) (λ e. 2 ≤ length e.items) (λ e is. engines_some e.items _ _ is read w.programs) c.programs_in.ensures

pub returns-clause-few : goal.returns-clause-few
returns-clause-few c =
    let (s, w) = c.requires in
    let read = text_read w.options.engines _ c.in-Some.is (c.in_ok-given.ensures.only _ w.options.give) c.in-Some-value.is c.value.ensures in
    IfOk-weaker c.programs_in.result (λ e. e.items ≡ map engine_of (program_texts c.in-Some-value.engines.now)) (λ e. length e.items ≤ 8) (λ e is. engines_few e.items _ _ is read w.programs) c.programs_in.ensures

pub returns-clause-engines : goal.returns-clause-engines
returns-clause-engines c =
    let options : CupOptions c.args.words.now = record {
      engines = c.in-Some-value.engines.now;
      game_type = value_at c.in-Some.given 1;
      depth = value_at c.in-Some.given 2;
      plies = value_at c.in-Some.given 3;
      patience = value_at c.in-Some.given 4;
      quiet = value_at c.in-Some.given 5;
      give = search rules;
    } in
    IfOk-weaker c.programs_in.result (λ e. e.items ≡ map engine_of (program_texts c.in-Some-value.engines.now)) (λ e. AskForEngines c.args.words.now e.items) (λ e is. record { options = options; engines_are = is }) c.programs_in.ensures
