-- What the search of a root answers, and what a timed search records of itself.
use Rattle.std.specs.Prelude.{◌≡◌, ℕ, ◌+◌, ◌-◌, ◌*◌, ◌^◌, ◌<◌, ◌≤◌, Option, Some, None, IfSome}
use Rattle.hive_model.specs.declared.best.Best.{Best}
use Rattle.hive_model.specs.declared.best.Timed.{Timed}
use Rattle.hive_model.specs.Positions.{Position}
use Rattle.hive_model.specs.Minimax.{value, best, nodes, reads}
use Rattle.hive_model.specs.Histories.{History, position}
use Rattle.hive_model.specs.Costs.{share}
use Rattle.search_core.specs.Moments.{Moment, Spends, Answers}

-- the first of the legal moves of greatest value with this number of plies searched, and its value
pub record IsTop (p : Position) (depth : ℕ) (top : Best) : Type 0 where
  pub first : best p depth ≡ Some top.best
  pub worth : top.value ≡ value p depth

-- Between two moments a search of a root spent no more than the plies of all its lines and the
-- share of one worker alone. It answers the best move.
pub record SearchesRoot (depth : ℕ) (answer : Option Best) (old new : Moment) : Type 0 where
  pub spends : Spends (nodes (position old.history) depth) (share (position old.history) depth 0 1)
      old new
  pub answers : Answers (IsTop (position old.history) depth) answer old new

-- What a search with this number of milliseconds records, between the last readings of the clock
-- before and after it. The depth is below 64 only if the time was over, and it is 1 if there was no
-- time.
pub record IsTimed (given before after : ℕ) (told : Timed) : Type 0 where
  pub depth : (1 ≤ told.depth) × (told.depth ≤ 64)
  pub late : told.depth < 64 → told.started + given ≤ told.stopped
  pub none : given ≡ 0 → told.depth ≡ 1
  pub budget : told.budget ≡ given
  pub started : before ≤ told.started
  pub order : told.started ≤ told.stopped
  pub stopped : told.stopped ≡ after

-- Each reading of the clock but the last came before the time was over, or is no later than the
-- first. Readings do not go back, so it is enough to say this of the one before the last.
abbrev pub IsStoppedInTime : ℕ → ℕ → ℕ → Type 0
IsStoppedInTime given started previous = started < previous → previous < started + given

-- Let the counts of readings and of plays be below their greatest value, that of a u64. Then after
-- depth 1 the clock was read at least once for each 256 plays.
abbrev pub IsWatched : Position → ℕ → ℕ → ℕ → ℕ → Type 0
IsWatched p readings readings' played played' = readings' < 2 ^ 64 - 1 → played' < 2 ^ 64 - 1
    → played' ≤ played + share p 1 0 1 + 256 * (readings' - readings)

-- A searcher that is prepared for at most this many plies is prepared for these, and the game has
-- room for them.
pub record IsPrepared (plies most : ℕ) (game : History) : Type 0 where
  pub prepared : plies ≤ most
  pub spare : plies ≤ game.spare

-- The times that a timed search records are right, and it stopped in time. It read the clock as
-- often as it had to, and no more.
pub record WasTimed (p : Position) (given : ℕ) (told : Timed)
    (last last' previous' read read' played played' : ℕ) : Type 0 where
  pub timed : IsTimed given last last' told
  pub in_time : IsStoppedInTime given told.started previous'
  pub readings : read' ≤ read + reads p told.depth
  pub often : IsWatched p read read' played played'

-- A search with a deadline has no answer only if the clock reached it. It has an answer only if the
-- clock did not, or was there before.
pub record KeepsDeadline {X : Type 0} (deadline : ℕ) (answer : Option X) (last last' : ℕ)
    : Type 0 where
  pub stopped : answer ≡ None → deadline ≤ last'
  pub in_time : IfSome answer (λ _. deadline ≤ last' → last' ≡ last)

-- Let the counts of readings and of plays be below their greatest value, that of a u64. Then a
-- search of this number of nodes reads the clock at least once for each 256 plays. In any case it
-- reads it at most once for each 256 nodes.
pub record ReadsClock (nodes readings readings' played played' : ℕ) : Type 0 where
  pub often : readings' < 2 ^ 64 - 1 → played' < 2 ^ 64 - 1
      → played' < played + 256 * (readings' - readings + 1)
  pub seldom : 256 * readings' ≤ 256 * readings + nodes
