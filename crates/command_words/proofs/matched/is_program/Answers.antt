use Rattle.std.proofs.Common.{◌≡◌, sym, ◌∙◌, ap, subst, IsTrue}
use Rattle.command_words.specs.Programs.{begins_word}
use Rattle.command_words.proofs.ProgramLaws.{program_is_tested}
use Rattle.command_words.proofs.matched.is_program.Goals as goal

pub returns : goal.returns
returns c =
    let tested = program_is_tested c.args.text.now in
    let same : c.begins_words.result ≡ begins_word c.args.text.now = c.begins_words.ensures ∙ ap begins_word c.as_bytes.ensures.value in
    (λ t. tested.0 (subst IsTrue same t), λ h. subst IsTrue (sym same) (tested.1 h))
