-- The lines that a reader has given so far are the first lines of the whole input.
use Rattle.std.specs.Prelude.{◌≡◌, ℕ, ◌<◌, Bool, true, List, [], ◌++◌, length, Some}
use Rattle.std.specs.Bool.{MatchBool}
use Rattle.io_edge.specs.Outside.{Told, in_front, IsAtEnd}
use Rattle.io_edge.specs.Lines.{Line as OneLine, lines}
use Rattle.line_feed.specs.Feed.{Reading, pending, SplitsOff, input_limit}

-- These lines were given of these bytes: all lines if the source has ended, and otherwise the first
-- ones, whatever comes later.
abbrev pub Covers : Bool → List ℕ → List ℕ → List OneLine → Told → Type 0
Covers finished bytes held given rest =
    MatchBool finished ((lines bytes ≡ given) × (held ≡ []) × IsAtEnd rest)
    (SplitsOff [] bytes given held)

-- Since the source stood at the first rest, this reader, which was new then, has read these bytes
-- and given these lines.
pub record Fed (old rest : Told) (reading : Reading) (bytes : List ℕ)
    (given : List OneLine) : Type 0 where
  pub left : old ≡ in_front bytes rest
  pub counted : reading.taken ≡ length bytes
  pub covers : Covers reading.finished bytes (pending reading) given rest
  pub below : reading.finished ≡ true → reading.taken < input_limit

-- the bytes of the input that were read, and those that are left
pub record WasRead (input : List ℕ) (rest : Told) (bytes left : List ℕ) : Type 0 where
  pub split : input ≡ bytes ++ left
  pub told : rest ≡ Some left
