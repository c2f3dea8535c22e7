use Rattle.std.proofs.Common.{◌≡◌, map, subst, MatchOption}
use Rattle.std.proofs.lemmas.Result.{IfOk-weaker}
use Rattle.std.specs.Prelude.{string_bytes}
use Rattle.command_words.specs.Audits.{AskForAudited, options_in}
use Rattle.command_words.specs.Matches.{between_spaces}
use Rattle.command_words.proofs.audits.audited_of.Goals as goal

pub unreachable-requires : goal.unreachable-requires
unreachable-requires c =
    let (a, w) = c.requires in
    subst (λ o. MatchOption o ⊥ (λ x. options_in x ≡ w.options)) c.in_default.is (c.in_ok-texts.ensures.only w.options w.give)

pub returns-clause-program : goal.returns-clause-program
returns-clause-program c =
    IfOk-weaker c.words_of.result (λ words. map string_bytes words.items ≡ between_spaces c.in-Some.texts.engine.now) (λ words. AskForAudited c.args.words.now (map string_bytes words.items))
    (λ words is. (options_in c.in-Some.texts, rw c.in-Some.is at c.in_ok-texts.ensures.found, is)) c.words_of.ensures.words
