-- Programs separated by semicolons, in one text.
use Rattle.std.specs.Prelude.{◌≢◌, ◌≤◌, ℕ, List, All, AllPairs, nat_eq, length}
use Rattle.std.specs.List.{slice_split}
use Rattle.cup.specs.Engines.{Engine}
use Rattle.command_words.specs.Matches.{IsProgram, between_spaces}

-- the texts between the semicolons (59) of a text
abbrev pub program_texts : List ℕ → List (List ℕ)
program_texts text = slice_split (λ b. nat_eq b 59) text

-- No two of these texts are equal.
abbrev pub AreDistinct : List (List ℕ) → Type 0
AreDistinct texts = AllPairs (λ a b. a ≢ b) texts

-- Two or more programs, at most this number, separated by semicolons. Each has its words separated
-- by single spaces, none of them empty. No two programs are equal.
pub record ArePrograms (most : ℕ) (text : List ℕ) : Type 0 where
  pub some : 2 ≤ length (program_texts text)
  pub few : length (program_texts text) ≤ most
  pub each : All IsProgram (program_texts text)
  pub distinct : AreDistinct (program_texts text)

-- the program that a text names: the text, and its words, which are the pieces between its spaces
abbrev pub engine_of : List ℕ → Engine
engine_of text = record { text = text; words = between_spaces text }
