use Rattle.std.proofs.Common.{◌≡◌, ◌<◌, ◌∙◌, ap, length, map}
use Rattle.std.proofs.lemmas.Result.{IfOk-weaker}
use Rattle.std.specs.Prelude.{string_bytes}
use Rattle.command_words.proofs.ProgramLaws.{words-some}
use Rattle.command_words.proofs.program.words_of.Goals as goal

pub returns-clause-some : goal.returns-clause-some
returns-clause-some c =
    IfOk-weaker c.strings_of.result (λ words. map string_bytes words.items ≡ map (λ piece. piece.now) c.as_slice.result.now) (λ words. 0 < length words.items)
    (λ words e. words-some words.items c.args.text.now (e ∙ ap (map (λ piece. piece.now)) c.as_slice.ensures.value ∙ c.in_ok-pieces.ensures)) c.strings_of.ensures
