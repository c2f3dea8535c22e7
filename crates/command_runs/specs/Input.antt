-- What a run reads of its input.
use Rattle.std.specs.Prelude.{◌≡◌, ℕ, ◌<◌, ◌≤◌, List, [], ◌++◌, length, Some}
use Rattle.io_edge.specs.Outside.{Told}
use Rattle.io_edge.specs.Lines.{Line, lines}
use Rattle.line_feed.specs.Feed.{HoldsLittle, Reading, input_limit, pending}
use Rattle.line_feed.specs.SoFar.{WasRead}

-- What is known of both sides of a run: the bytes that the source has left, and those that the sink
-- took.
pub record Sides : Type 0 where
  pub rest : Told
  pub written : Told

-- a claim about the bytes of a source, if they are known
abbrev pub WhereTold : Told → (List ℕ → Type 0) → Type 0
WhereTold told claim = (input : List ℕ) → told ≡ Some input → claim input

-- These are the first lines of the input. The bytes that have left the source are within the limit.
-- They are those lines, and what a reader still holds: a prefix of one line and at most one piece
-- beyond it.
pub record AreRead (input : List ℕ) (rest : Told) (read : List Line) (bytes left : List ℕ)
    (reader : Reading) (others : List Line) : Type 0 where
  pub was_read : WasRead input rest bytes left
  pub within : length bytes ≤ input_limit
  pub of_bytes : lines bytes ≡ read ++ lines (pending reader)
  pub little : HoldsLittle reader
  pub of_input : lines input ≡ read ++ others

abbrev pub WereRead : List ℕ → Told → List Line → Type 0
WereRead input rest read =
    (bytes : List ℕ) × (left : List ℕ) × (reader : Reading) × (others : List Line)
    × AreRead input rest read bytes left reader others

-- The input, which is below the limit, was read to its end.
pub record IsAllRead (input : List ℕ) (rest : Told) : Type 0 where
  pub at_end : rest ≡ Some []
  pub below : length input < input_limit
