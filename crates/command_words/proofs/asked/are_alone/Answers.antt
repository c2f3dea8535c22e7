use Rattle.std.proofs.Common.{arith, sym, ◌∙◌}
use Rattle.std.proofs.lemmas.Slice.Eq.{bytes_eq-Decides}
use Rattle.command_words.proofs.WordLemmas.{one_word}
use Rattle.command_words.proofs.asked.are_alone.Goals as goal

pub returns-in-len1 : goal.returns-in-len1
returns-in-len1 c =
    let d = bytes_eq-Decides c.as_str.result.now c.args.name.now in
    one_word c.args.words.now c.word-item.result c.eq.result c.args.name.now (omega arith) (omega arith) c.word-item.is (λ t. sym c.as_str.ensures.value ∙ d.0 (sym c.eq.ensures ∙ t)) (λ e. c.eq.ensures ∙ d.1 (c.as_str.ensures.value ∙ e))
