-- All that the run of a command can change, and what it leaves unchanged.
use Rattle.std.specs.Prelude.{◌≡◌, ℕ, List}
use Rattle.io_edge.specs.Outside.{Told}
use Rattle.io_edge.specs.Starts.{Engines}
use Rattle.hive_model.specs.declared.best.Timed.{Timed}
use Rattle.command_runs.specs.Input.{Sides}

-- The last reading of the clock, how often it was read, and an entry for each timed search that was
-- answered.
pub record Times : Type 0 where
  pub last : ℕ
  pub readings : ℕ
  pub timed : List Timed

-- All that the run of a command can change: the input that is left and what was written, the clock
-- and the entries of searches. It also has what is known of the programs that were started.
pub record World : Type 0 where
  pub sides : Sides
  pub times : Times
  pub engines : Engines

abbrev pub sides : Told → Told → Sides
sides rest written = record { rest = rest; written = written }

abbrev pub times : ℕ → ℕ → List Timed → Times
times last readings timed = record { last = last; readings = readings; timed = timed }

abbrev pub world : Sides → Times → Engines → World
world sides times engines = record { sides = sides; times = times; engines = engines }

-- the world after reading so far that this is left of the input, with no other change
abbrev pub once_read : Told → World → World
once_read rest w = world (sides rest w.sides.written) w.times w.engines

-- The clock was not read, and no timed search was answered.
pub record TakesNoTime (before after : Times) : Type 0 where
  pub last : after.last ≡ before.last
  pub readings : after.readings ≡ before.readings
  pub timed : after.timed ≡ before.timed

-- the input that is left has not changed
abbrev pub LeavesInput : World → World → Type 0
LeavesInput before after = after.sides.rest ≡ before.sides.rest

-- the clock and the entries have not changed
abbrev pub LeavesTimes : World → World → Type 0
LeavesTimes before after = TakesNoTime before.times after.times

-- What is known of programs has not changed: none was started or closed.
abbrev pub LeavesEngines : World → World → Type 0
LeavesEngines before after = after.engines ≡ before.engines
