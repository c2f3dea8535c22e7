use Rattle.std.proofs.Common.{◌≡◌, List, Option, None, Some, refl, sym, String, Global}
use Rattle.command_words.specs.declared.asked.Asked.{Asked}
use Rattle.command_words.specs.Laws.{AnswersWords}
use Rattle.command_words.proofs.laws.words_have_one_answer.Goals as goal

one-answer : (words : List (String Global)) (a b : Option Asked) → AnswersWords words a → AnswersWords words b → a ≡ b
one-answer words (Some a) b first second = sym (second.only a first.asked)
one-answer words None (Some b) first second = first.only b second.asked
one-answer words None None first second = refl

pub returns : goal.returns
returns c = one-answer
