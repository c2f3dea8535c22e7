-- What is known of a link.
use Rattle.std.specs.Prelude.{◌≡◌, ◌⊎◌, ℕ, ◌≤◌, List, length, Some}
use Rattle.io_edge.specs.Outside.{Told, Rose, in_front}
use Rattle.line_feed.specs.Feed.{input_limit}

-- What is known of a link: the bytes that it has left, those that were written to it, and how often
-- its reads and its writes have failed.
pub record Wire : Type 0 where
  pub rest : Told
  pub written : Told
  pub reads : ℕ
  pub writes : ℕ

abbrev pub wire : Told → Told → ℕ → ℕ → Wire
wire rest written reads writes = record {
  rest = rest;
  written = written;
  reads = reads;
  writes = writes;
}

-- A call of a link failed: its count of failed reads or of failed writes rose.
abbrev pub HasFailed : Wire → Wire → Type 0
HasFailed before after = Rose before.reads after.reads ⊎ Rose before.writes after.writes

-- As many bytes as the limit of what is read have left a link.
abbrev pub TookLimit : Told → Told → Type 0
TookLimit before after =
    (bytes : List ℕ) × (before ≡ in_front bytes after) × (length bytes ≡ input_limit)

-- If the bytes of a link are known, there are at least as many as the limit of what is read.
abbrev pub HasLimit : Told → Type 0
HasLimit rest = (bytes : List ℕ) → rest ≡ Some bytes → input_limit ≤ length bytes
