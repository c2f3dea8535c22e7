-- The law of the moves of a seed.
use Rattle.std.specs.Prelude.{◌≡◌, ℕ, ◌≤◌, ◌<◌, true, length}
use Rattle.hive_model.specs.Legal.{is_over}
use Rattle.hive_model.specs.Games.{replay, IsGame}
use Rattle.grow_game.specs.Growing.{full_type, start, grown_moves}

-- they are a game of at most this number of plies, and of fewer only if that game is over
pub record MakesGame (seed plies : ℕ) : Type 0 where
  pub game : IsGame full_type (grown_moves seed plies)
  pub few : length (grown_moves seed plies) ≤ plies
  pub over :
      length (grown_moves seed plies) < plies →
      is_over (replay start (grown_moves seed plies)) ≡ true

abbrev pub GrownMovesAreGames : Type 0
GrownMovesAreGames = (seed plies : ℕ) → MakesGame seed plies
