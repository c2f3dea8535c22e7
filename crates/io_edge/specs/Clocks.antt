-- What a reading of a clock is, and what the clocks in memory hold.
use Rattle.std.specs.Prelude.{◌≡◌, ℕ, ◌+◌, ◌-◌, ◌^◌, ◌<◌, ◌≤◌, min, max, List, [], ◌∷◌}
use Rattle.io_edge.specs.Outside.{one_more}

-- A clock was read, and told this moment: it is its last reading from then on, and none before was
-- greater. The reading was counted.
pub record TellsTime (moment : ℕ) (last_before last_now readings_before readings_now : ℕ)
    : Type 0 where
  pub read : last_now ≡ moment
  pub later : last_before ≤ moment
  pub bound : moment < 2 ^ 62
  pub counted : (readings_before ≤ readings_now) × (readings_now ≤ readings_before + 1)
  pub exact : readings_now ≡ one_more readings_before

-- the greatest reading of a clock, in milliseconds
abbrev pub last_moment : ℕ
last_moment = 2 ^ 62 - 1

-- a clock that goes by steps: the reading to come, the step, the last reading, the one before it,
-- and how often it was read
pub record StepState : Type 0 where
  pub next : ℕ
  pub step : ℕ
  pub last : ℕ
  pub previous : ℕ
  pub readings : ℕ

-- a clock over a list: the readings to come, the last reading, the one before it, and how often it
-- was read
pub record ClockState : Type 0 where
  pub coming : List ℕ
  pub last : ℕ
  pub previous : ℕ
  pub readings : ℕ

-- the reading after one: the first of the list, cut to the greatest reading, yet never an earlier
-- one; where the list is at its end, the same again
abbrev pub reading_after : ℕ → List ℕ → ℕ
reading_after last [] = last
reading_after last (moment ∷ later) = max (min moment last_moment) last
