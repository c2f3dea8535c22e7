-- Calls that are numbered from 1, of which those on a list fail, and the sizes of their pieces.
use Rattle.std.specs.Prelude.{◌≡◌, ℕ, ◌-◌, ◌==◌, if◌then◌else◌, Bool, min, max, List, length, slice_index}
use Rattle.std.specs.List.{list_any}
use Rattle.io_edge.specs.Outside.{one_more}

-- the numbers of the calls that fail, how many calls were made, and how many of these have failed
pub record Calls : Type 0 where
  pub failing : List ℕ
  pub made : ℕ
  pub faults : ℕ

-- no call was made yet
abbrev pub new_calls : List ℕ → Calls
new_calls failing = record { failing = failing; made = 0; faults = 0 }

-- the number of the call to come
abbrev pub next_number : Calls → ℕ
next_number calls = one_more calls.made

-- the call to come fails by the list: its number stands there
abbrev pub next_fails : Calls → Bool
next_fails calls = list_any (λ number. number == next_number calls) calls.failing

-- one more call was made, and where it failed the count of faults is one more
pub record CountsCall (failed : Type 0) (before now : Calls) : Type 0 where
  pub failing : now.failing ≡ before.failing
  pub made : now.made ≡ one_more before.made
  pub faults : failed → now.faults ≡ one_more before.faults
  pub same : ¬ failed → now.faults ≡ before.faults

-- the greatest size of the piece of a call: call n has the n-th size, each later call the last one,
-- and 0 counts as 1
abbrev pub greatest_size : List ℕ → ℕ → ℕ
greatest_size sizes call = max (slice_index sizes (min call (length sizes) - 1)) 1

-- how many of so many bytes are the piece of a call: all of them up to the greatest size, and where
-- no sizes are given just all
abbrev pub piece_of : List ℕ → ℕ → ℕ → ℕ
piece_of sizes call bytes =
    if length sizes == 0 then bytes else min (greatest_size sizes call) bytes
