-- What contracts see of the machine's streams, its clock and its starter of programs.
use Rattle.std.specs.Prelude.{ℕ, Bool}
use Rattle.std.specs.declared.option.Option.{Option}

-- a reader or a writer, and how many of its calls have failed
pub record CountedStream (T : Type 0) : Type 0 where
  pub stream : T
  pub faults : ℕ

-- a clock: its last reading, the one before it, and how often it was read
pub record Readings : Type 0 where
  pub last : ℕ
  pub previous : ℕ
  pub readings : ℕ

-- A starter of programs. For how many milliseconds an answer of a program is read, if there is a
-- limit; whether what programs write to standard error is thrown away; whether the games that they
-- are asked for are counted there; how many starts have failed; and how many of the closed programs
-- had failed.
pub record StarterState : Type 0 where
  pub limit : Option ℕ
  pub quiet : Bool
  pub counts_games : Bool
  pub start_faults : ℕ
  pub engine_faults : ℕ
