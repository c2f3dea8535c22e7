use Rattle.std.proofs.Common.{◌≡◌, ◌≤◌, ◌∙◌, ap, subst, length, map, codes, MatchOption}
use Rattle.std.proofs.lemmas.Result.{IfOk-weaker}
use Rattle.std.specs.Prelude.{string_bytes}
use Rattle.option_words.specs.Options.{Gives, value_at}
use Rattle.command_words.specs.Engines.{engine_of, program_texts}
use Rattle.command_words.specs.Tournaments.{AskForTournamentEngines, TournamentOptions, tournament_choices, tournament_options}
use Rattle.command_words.proofs.EngineLemmas.{engines_few, engines_some, text_read}
use Rattle.command_words.proofs.GivenLemmas.{none_given, values_are}
use Rattle.command_words.proofs.MatchLemmas.{value_read}
use Rattle.command_words.proofs.TournamentLemmas.{asked, tournament_read}
use Rattle.command_words.proofs.tournaments.tournament_engines_of.Goals as goal

pub unreachable-requires : goal.unreachable-requires
unreachable-requires c =
    let (s, r, g, n, p, w) = c.requires in
    subst (λ o. MatchOption o ⊥ (λ given. given ≡ asked w.options)) c.in_default.is (c.in_ok-given.ensures.only (asked w.options) w.options.give)

pub unreachable-requires-in_default-value : goal.unreachable-requires-in_default-value
unreachable-requires-in_default-value c =
    let (s, r, g, n, p, w) = c.requires in
    let values = values_are c.in-Some.is (c.in_ok-given.ensures.only (asked w.options) w.options.give) in
    none_given c.value.result w.options.engines c.in_default-value.is (c.value.ensures ∙ ap (λ given. value_at given 0) values)

pub returns-clause-some : goal.returns-clause-some
returns-clause-some c =
    let (s, r, g, n, p, w) = c.requires in
    let read = text_read w.options.engines _ c.in-Some.is (c.in_ok-given.ensures.only (asked w.options) w.options.give) c.in-Some-value.is c.value.ensures in
    IfOk-weaker c.programs_in.result (λ e. e.items ≡ map engine_of (program_texts c.in-Some-value.engines.now)) (λ e. 2 ≤ length e.items) (λ e is. engines_some e.items _ _ is read w.programs) c.programs_in.ensures

pub returns-clause-few : goal.returns-clause-few
returns-clause-few c =
    let (s, r, g, n, p, w) = c.requires in
    let read = text_read w.options.engines _ c.in-Some.is (c.in_ok-given.ensures.only (asked w.options) w.options.give) c.in-Some-value.is c.value.ensures in
    IfOk-weaker c.programs_in.result (λ e. e.items ≡ map engine_of (program_texts c.in-Some-value.engines.now)) (λ e. length e.items ≤ 64) (λ e is. engines_few e.items _ _ is read w.programs) c.programs_in.ensures

pub returns-clause-engines : goal.returns-clause-engines
returns-clause-engines c =
    let gives = rw c.in-Some.is at c.in_ok-given.ensures.values in
    let first = value_read c.value.result c.in-Some-value.engines _ c.in-Some-value.is c.value.ensures in
    let same = tournament_read _ gives.items c.in-Some-value.engines.now gives.values_are first in
    let options : TournamentOptions c.args.words.now = record {
      engines = c.in-Some-value.engines.now;
      choices = tournament_choices c.in-Some.given;
      rounds = value_at c.in-Some.given 9;
      at_once = value_at c.in-Some.given 10;
      gauntlet = value_at c.in-Some.given 11;
      resume = value_at c.in-Some.given 12;
      give = subst (Gives (map string_bytes c.args.words.now) (codes "tournament") tournament_options) same gives;
    } in
    IfOk-weaker c.programs_in.result (λ e. e.items ≡ map engine_of (program_texts c.in-Some-value.engines.now)) (λ e. AskForTournamentEngines c.args.words.now e.items) (λ e is. record { options = options; engines_are = is }) c.programs_in.ensures
