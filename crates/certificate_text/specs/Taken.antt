-- What was read of an input, and how far its reader has come.
use Rattle.std.specs.Prelude.{◌≡◌, ℕ, ◌<◌, ◌≤◌, true, ⊤, ◌⊎◌, List, length, Option, Some, None}
use Rattle.io_edge.specs.Outside.{Told}
use Rattle.io_edge.specs.Lines.{Line, Text}
use Rattle.line_feed.specs.Feed.{HoldsLittle, Reading, input_limit}
use Rattle.line_feed.specs.SoFar.{Fed}
use Rattle.certificate_walks.specs.declared.items.ItemAnswer.{ItemAnswer}
use Rattle.certificate_walks.specs.declared.items.ItemAnswer.TheVariants.{Item, End, Bad, Failed, Full}

-- These first bytes of the input were read by a reader that was new. It gave these lines of them,
-- which are at most `most`. The bytes are within the limit. The reader holds the front of one line,
-- and at most one piece beyond it.
pub record HasRead (input : List ℕ) (rest : Told) (reader : Reading) (most : ℕ) : Type 0 where
  pub bytes : List ℕ
  pub given : List Line
  pub few : length given ≤ most
  pub fed : Fed (Some input) rest reader bytes given
  pub within : reader.taken ≤ input_limit
  pub little : HoldsLittle reader

-- The line that the reader gave last is no such item. Its text is none, or it was too long, and
-- then more than 65,536 bytes have passed.
abbrev pub GaveNone : {T : Type 0} → (Line → Option T) → Reading → Type 0
GaveNone item reader = (item (Text reader.last) ≡ None) ⊎ (65536 < reader.passed)

-- How far a reader has come that was asked for such an item, by the answer. It has met the end; it
-- gave a line that is no item; a read has failed below the limit; or the limit is reached.
abbrev pub StopsAt : {T : Type 0} → (Line → Option T) → ItemAnswer T → Reading → Type 0
StopsAt item (Item i) reader = ⊤
StopsAt item End reader = reader.finished ≡ true
StopsAt item Bad reader = GaveNone item reader
StopsAt item Failed reader = reader.taken < input_limit
StopsAt item Full reader = reader.taken ≡ input_limit
