-- The lines of a byte stream, as one list for the whole stream: nothing here knows in which pieces
-- the bytes come.
use Rattle.std.specs.Prelude.{◌≡◌, ℕ, ◌-◌, ◌==◌, nat_lt, if◌then◌else◌, List, [], ◌∷◌, length, map, take, slice_index, Option, Some, None}

-- a line has at most so many bytes
abbrev pub greatest_line : ℕ
greatest_line = 65536

-- a line is its text, or the mark that it is too long
pub data Line : Type 0 where
  Text : (bytes : List ℕ) → Line
  TooLong : Line

-- the byte goes in front of the first part, which it begins where there is none
abbrev pub onto : ℕ → List (List ℕ) → List (List ℕ)
onto b [] = (b ∷ []) ∷ []
onto b (p ∷ ps) = (b ∷ p) ∷ ps

-- the parts that end in LF (10), and a non-empty rest
unfoldable pub line_parts : List ℕ → List (List ℕ)
line_parts [] = []
line_parts (b ∷ bs) = if b == 10 then [] ∷ line_parts bs else onto b (line_parts bs)

-- the byte goes in front of the first part, if there is one
abbrev pub into : ℕ → List (List ℕ) → List (List ℕ)
into b [] = []
into b (p ∷ ps) = (b ∷ p) ∷ ps

-- the parts that end in LF, and no rest
unfoldable pub whole_parts : List ℕ → List (List ℕ)
whole_parts [] = []
whole_parts (b ∷ bs) = if b == 10 then [] ∷ whole_parts bs else into b (whole_parts bs)

-- a part without one last CR (13)
abbrev pub without_cr : List ℕ → List ℕ
without_cr part =
    if slice_index part (length part - 1) == 13 then take (length part - 1) part else part

-- a part of more than 65,536 bytes, a last CR counted, is too long
unfoldable pub line_of : List ℕ → Line
line_of part = if nat_lt greatest_line (length part) then TooLong else Text (without_cr part)

-- the lines of a stream
unfoldable pub lines : List ℕ → List Line
lines bytes = map line_of (line_parts bytes)

-- its lines that end in LF
unfoldable pub whole_lines : List ℕ → List Line
whole_lines bytes = map line_of (whole_parts bytes)

-- Lines to come

-- lines where they are told, and none where they are not
abbrev pub ToldLines : Type 0
ToldLines = Option (List Line)

-- no line is to come, where that is told
abbrev pub NoneAhead : ToldLines → Type 0
NoneAhead None = Unit {0}
NoneAhead (Some left) = left ≡ []

-- the next line to come is too long, where that is told
abbrev pub LongAhead : ToldLines → Type 0
LongAhead None = Unit {0}
LongAhead (Some left) = (more : List Line) × (left ≡ TooLong ∷ more)
