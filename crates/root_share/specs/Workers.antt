-- The workers at a root: what they need to search it, and their state afterwards.
use Rattle.std.specs.Prelude.{◌≡◌, ℕ, ◌+◌, ◌≤◌, false, List, map, length}
use Rattle.std.specs.List.{All}
use Rattle.hive_model.specs.Positions.{Position}
use Rattle.hive_model.specs.Legal.{is_over}
use Rattle.hive_model.specs.Histories.{History}
use Rattle.root_share.specs.declared.worker.Worker.{Worker}
use Rattle.root_share.specs.Answer.{root_of, AreEqualGames}

-- the workers' games, in their order
abbrev pub games_of : {G : Type 0} → (G → History) → List (Worker G) → List History
games_of history workers = map (λ w. history w.game) workers

-- the number of plies for which each worker's searcher is prepared
abbrev pub searchers_of : {G : Type 0} → List (Worker G) → List ℕ
searchers_of workers = map (λ w. w.searcher) workers

-- the number of moves that each worker's game has played
abbrev pub plays_of : {G : Type 0} → (G → ℕ) → List (Worker G) → List ℕ
plays_of played workers = map (λ w. played w.game) workers

-- the position of the workers' games
abbrev pub root_at : {G : Type 0} → (G → History) → List (Worker G) → Position
root_at history workers = root_of (games_of history workers)

-- 1 to 16 workers that can search this many plies from one root. Their games are equal and not
-- over. Each game has room for the plies, and each searcher is prepared for them.
pub record CanSearch {G : Type 0} (history : G → History) (depth : ℕ)
    (workers : List (Worker G)) : Type 0 where
  pub some : 1 ≤ length workers
  pub few : length workers ≤ 16
  pub equal : AreEqualGames (games_of history workers)
  pub goes_on : is_over (root_at history workers) ≡ false
  pub spare : All (λ (c : History). depth ≤ c.spare) (games_of history workers)
  pub prepared : All (λ (n : ℕ). depth ≤ n) (searchers_of workers)

-- games and searchers have not changed
pub record AreAsBefore {G : Type 0} (history : G → History)
    (workers later : List (Worker G)) : Type 0 where
  pub games : games_of history later ≡ games_of history workers
  pub searchers : searchers_of later ≡ searchers_of workers

-- The game and the searcher of a worker have not changed, and it has played at most this many
-- moves.
pub record HasPlayed {G : Type 0} (history : G → History) (played : G → ℕ)
    (worker later : Worker G) (most : ℕ) : Type 0 where
  pub game : history later.game ≡ history worker.game
  pub searcher : later.searcher ≡ worker.searcher
  pub plays : played later.game ≤ played worker.game + most
