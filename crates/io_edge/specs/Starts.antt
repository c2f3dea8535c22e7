-- What is told of the programs that a run starts, and what the starter of links in memory holds and
-- does.
use Rattle.std.specs.Prelude.{◌≡◌, ◌⊎◌, ℕ, Bool, List, [], ◌∷◌, ◌++◌, map, true, false, None, Some, if◌then◌else◌}
use Rattle.io_edge.specs.Outside.{ToldLists, ToldPrograms}
use Rattle.io_edge.specs.Calls.{Calls, next_fails}
use Rattle.io_edge.specs.Memory.{LinkState}

-- what is told of the programs that a run starts: what those still to be started will say, what was
-- written to those that were closed, by which words programs were started, how often a start has
-- failed, and how many closed programs had failed
pub record Engines : Type 0 where
  pub to_come : ToldLists
  pub sent : ToldLists
  pub started : ToldPrograms
  pub start_faults : ℕ
  pub engine_faults : ℕ

-- the links to come, the closed links in the order of closing, whether a closed link was lost for
-- want of memory, the words of each program that was started, in the order of the starts, the calls
-- of start, and how many closed links had failed
pub record SpawnerState : Type 0 where
  pub coming : List LinkState
  pub closed : List LinkState
  pub lost : Bool
  pub started : List (List (List ℕ))
  pub calls : Calls
  pub failed : ℕ

-- what the links of a list will say
abbrev pub all_left : List LinkState → List (List ℕ)
all_left links = map (λ link. link.source.left) links

-- what was written to the links of a list
abbrev pub all_written : List LinkState → List (List ℕ)
all_written links = map (λ link. link.sink.written) links

-- what was written to the closed links, told as long as none was lost
abbrev pub told_sent : SpawnerState → ToldLists
told_sent spawner = if spawner.lost then None else Some (all_written spawner.closed)

-- what the starter of links in memory tells
abbrev pub told_engines : SpawnerState → Engines
told_engines spawner = record {
  to_come = Some (all_left spawner.coming);
  sent = told_sent spawner;
  started = Some spawner.started;
  start_faults = spawner.calls.faults;
  engine_faults = spawner.failed;
}

-- a start fails where its number is on the list, and where no link is left
abbrev pub FailsToStart : SpawnerState → Type 0
FailsToStart spawner = (next_fails spawner.calls ≡ true) ⊎ (spawner.coming ≡ [])

-- a closed link stands last among those closed, unless one was lost now or before
pub record Closes (link : LinkState) (before now : SpawnerState) : Type 0 where
  pub kept : now.lost ≡ false → (before.lost ≡ false) × (now.closed ≡ before.closed ++ link ∷ [])
  pub lost : now.lost ≡ true → now.closed ≡ before.closed
  pub coming : now.coming ≡ before.coming
  pub calls : now.calls ≡ before.calls
  pub started : now.started ≡ before.started
