use Rattle.std.proofs.Common.{◌∙◌, ap, ◌-◌, length, take}
use Rattle.uhp_words.proofs.SpaceLaws.{taken_word}
use Rattle.uhp_words.proofs.words.first_word.Goals as goal

pub returns-clause-value : goal.returns-clause-value
returns-clause-value c = ap (λ r. take (length c.args.text.now - length r) c.args.text.now) c.after_word.ensures.value ∙ taken_word c.args.text.now
