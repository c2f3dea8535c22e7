-- What contracts know of a link and of a clock.
use Rattle.std.specs.Prelude.{◌≡◌, ◌⊎◌, ℕ}
use Rattle.io_edge.specs.Outside.{Told, Rose}

-- What contracts know of a link: the bytes that are left in it, the bytes written to it, and how
-- often its reads and its writes have failed.
pub record Wire : Type 0 where
  pub rest : Told
  pub written : Told
  pub reads : ℕ
  pub writes : ℕ

abbrev pub wire : Told → Told → ℕ → ℕ → Wire
wire rest written reads writes = record {
  rest = rest;
  written = written;
  reads = reads;
  writes = writes;
}

-- no read and no write of a link has failed yet
pub record IsFresh (read_faults write_faults : ℕ) : Type 0 where
  pub reads : read_faults ≡ 0
  pub writes : write_faults ≡ 0

-- a call of a link failed: its count of failed reads or of failed writes rose
abbrev pub HasFailed : Wire → Wire → Type 0
HasFailed before after = Rose before.reads after.reads ⊎ Rose before.writes after.writes

-- a clock: its last reading, and how often it was read
pub record Watch : Type 0 where
  pub last : ℕ
  pub readings : ℕ

-- a clock with this last reading, read this often
abbrev pub watch : ℕ → ℕ → Watch
watch last readings = record { last = last; readings = readings }
