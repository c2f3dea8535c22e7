-- What is claimed of a position, and what the walk of a claim needs of game and stack.
use Rattle.std.specs.Prelude.{◌≡◌, ◌<◌, ◌≤◌, ℕ, ℤ, Some, length}
use Rattle.hive_model.specs.Positions.{Position}
use Rattle.hive_model.specs.Legal.{moves}
use Rattle.hive_model.specs.Minimax.{IsInner, value, best}
use Rattle.hive_model.specs.Histories.{History, position}
use Rattle.hive_model.specs.Stack.{Levels, level_of}
use Rattle.search_laws.specs.Laws.{IsSmall}
use Rattle.certificate_walks.specs.declared.claim.Claim.{Claim}

-- A claim of this depth and value can be judged of the game under way, which goes on.
pub record IsClaimOf (history : History) (depth : ℕ) (value : ℤ) : Type 0 where
  pub deep : depth ≤ 64
  pub inner : IsInner (position history) depth
  pub small : IsSmall 1000064 value
  pub spare : depth ≤ history.spare

-- the claimed move is the best one at the claimed depth, and the position has the claimed value
abbrev pub IsTrueOf : Position → Claim → Type 0
IsTrueOf p claim =
    (best p claim.depth ≡ Some claim.best) × (value p claim.depth ≡ claim.value)

-- The legal moves are on this level. There is room for each of them and for `depth` plies after it.
pub record HasReplies (depth level : ℕ) (game : History) (stack : Levels) : Type 0 where
  pub deep : depth < 64
  pub spare : depth < game.spare
  pub free : depth ≤ stack.free
  pub stands : level < length stack.lists
  pub listed : level_of stack level ≡ moves (position game)
