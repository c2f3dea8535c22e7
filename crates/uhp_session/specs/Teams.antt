-- The searchers of a session.
use Rattle.std.specs.Prelude.{◌≡◌, ℕ, ◌≤◌, List, length}
use Rattle.std.specs.List.{All}

-- This number of workers search in parallel, each with a table of this number of entries.
pub record IsTeam (members size : ℕ) : Type 0 where
  pub workers : 1 ≤ members
  pub few : members ≤ 16
  pub entries : 1 ≤ size
  pub large : size ≤ 1048576

-- There is a searcher for each of this number of workers, all of them prepared for 64 plies.
pub record AreSearchersOf (members : ℕ) (searchers : List ℕ) : Type 0 where
  pub count : length searchers ≡ members
  pub prepared : All (λ n. n ≡ 64) searchers
