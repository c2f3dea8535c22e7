-- A law of the words of the command line.
use Rattle.std.specs.Prelude.{◌≡◌, List, Option, Some, IfSome}
use Rattle.std.specs.declared.string.String.{String}
use Rattle.std.specs.declared.alloc.Global.{Global}
use Rattle.command_words.specs.declared.asked.Asked.{Asked}
use Rattle.command_words.specs.Words.{Words}

-- This answers what the words ask for: something that they ask for, or none. Whatever they ask for
-- is the answer.
pub record AnswersWords (words : List (String Global)) (answer : Option Asked) : Type 0 where
  pub asked : IfSome answer (λ a. Words words a)
  pub only : (a : Asked) → Words words a → answer ≡ Some a

-- One list of words has one answer.
abbrev pub WordsHaveOneAnswer : Type 0
WordsHaveOneAnswer =
    (words : List (String Global)) (a b : Option Asked)
    → AnswersWords words a → AnswersWords words b → a ≡ b
