-- Parts of a line.
use Rattle.std.specs.Prelude.{◌≡◌, ℕ, ◌+◌, ◌-◌, ◌≤◌, List, length, take, drop}
use Rattle.uhp_words.specs.declared.span.Span.{Span}

-- the bytes of a part of the line
abbrev pub bytes_at : List ℕ → Span → List ℕ
bytes_at line span = take span.len (drop span.at line)

-- The part does not go beyond the end of the line.
abbrev pub IsWithin : List ℕ → Span → Type 0
IsWithin line span = span.at + span.len ≤ length line

-- The part of the line that begins after `at` bytes and is this text.
pub record IsPart (line : List ℕ) (span : Span) (at : ℕ) (text : List ℕ) : Type 0 where
  pub begins : span.at ≡ at
  pub len : span.len ≡ length text
  pub bytes : bytes_at line span ≡ text
  pub within : IsWithin line span

-- the span of the word with which `rest` begins, if `rest` is a suffix of the text
abbrev pub span_of : List ℕ → List ℕ → List ℕ → Span
span_of text rest word = record { at = length text - length rest; len = length word }
