-- The plies played so far of the game that a number makes.
use Rattle.std.specs.Prelude.{◌≡◌, ℕ, ◌+◌, List, length}
use Rattle.hive_model.specs.Histories.{History, position}
use Rattle.grow_game.specs.declared.plies.Ply.{Ply}
use Rattle.grow_game.specs.Plies.{moves_of, AreKeyed}
use Rattle.grow_game.specs.Growing.{seeded, grown, choices}

-- These plies lead from a game with no moves to this one. They are the moves of the seed, each with
-- the key before it. The sum counts the moves from which they were chosen.
pub record AreMade (seed plies : ℕ) (from to : History) (made : List Ply) (sum : ℕ) : Type 0 where
  pub kind : to.game_type ≡ from.game_type
  pub moves : to.made ≡ moves_of made
  pub grown : moves_of made ≡ grown (seeded seed) plies (position from)
  pub keyed : AreKeyed (position from) made
  pub chosen : sum ≡ choices (position from) (moves_of made)
  pub spare : to.spare + length made ≡ from.spare
