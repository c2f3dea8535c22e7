-- What contracts see of a bell, and what a reading of it returns.
use Rattle.std.specs.Prelude.{◌≡◌, ℕ, ◌+◌, ◌≤◌, ℤ, ◌≤ℤ◌, int_lt, if◌then◌else◌}
use Rattle.atomic_table.specs.Seated.{TableId}
use Rattle.atomic_table.specs.declared.shared.Seat.{Seat}
use Rattle.root_share.specs.Word.{Known, IsSeat}

-- The last reading, the one before it, and the number of readings. The bound that the bell was made
-- for, the bound that its seat knows, and how often that seat has read the word.
pub record Strokes : Type 0 where
  pub last : ℕ
  pub previous : ℕ
  pub readings : ℕ
  pub made_for : ℤ
  pub top : ℤ
  pub looks : ℕ

-- the reading of a bell that was made for one bound, if the bound is now `top`
abbrev pub stroke : ℤ → ℤ → ℕ
stroke made_for top = if int_lt made_for top then 1 else 0

-- The bell was read: its seat has read the word once more. The bell has struck exactly if the bound
-- there is higher than the one that it was made for.
pub record HasRung (before after : Strokes) : Type 0 where
  pub looked : after.looks ≡ before.looks + 1
  pub made_for : after.made_for ≡ before.made_for
  pub grows : before.top ≤ℤ after.top
  pub struck : after.last ≡ stroke after.made_for after.top

-- The invariant of a bell: its seat at the word knows the depth of the root, and its last reading
-- fits the bound that the seat knows.
pub record IsBell (id : TableId) (seat : Seat (Unit {0}) Known) (made_for : ℤ) (last : ℕ)
    : Type 0 where
  pub seated : IsSeat id seat
  pub deep : seat.me.0.depth ≤ 64
  pub struck : last ≡ stroke made_for seat.me.0.top
