-- What a walk over the legal moves of a game requires of the game and of its stack of moves, and
-- how it leaves them.
use Rattle.std.specs.Prelude.{◌≡◌, ℕ, ◌-◌, ◌<◌, ◌≤◌, length}
use Rattle.hive_model.specs.declared.places.Move.{Move}
use Rattle.hive_model.specs.Lists.{IsOn}
use Rattle.hive_model.specs.Legal.{moves}
use Rattle.hive_model.specs.Minimax.{IsInner}
use Rattle.hive_model.specs.Histories.{History, position}
use Rattle.hive_model.specs.Stack.{Levels, level_of}

-- There is room for this many plies, 64 at most, in the game and on the stack.
pub record HasRoom (depth : ℕ) (game : History) (stack : Levels) : Type 0 where
  pub deep : depth ≤ 64
  pub spare : depth ≤ game.spare
  pub free : depth ≤ stack.free

-- The game is not over and a ply is left to search. The legal moves are on this level, and there is
-- room for the plies below it.
pub record IsNode (depth level : ℕ) (game : History) (stack : Levels) : Type 0 where
  pub inner : IsInner (position game) depth
  pub deep : depth ≤ 64
  pub spare : depth ≤ game.spare
  pub free : depth - 1 ≤ stack.free
  pub stands : level < length stack.lists
  pub listed : level_of stack level ≡ moves (position game)

-- The move is legal, and there is room for it and for this many plies after it.
pub record CanReply (m : Move) (depth : ℕ) (game : History) (stack : Levels) : Type 0 where
  pub legal : IsOn (moves (position game)) m
  pub deep : depth < 64
  pub spare : depth < game.spare
  pub free : depth ≤ stack.free

-- the game and the stack have not changed
pub record AreAsBefore (history history' : History) (levels levels' : Levels) : Type 0 where
  pub game : history' ≡ history
  pub stack : levels' ≡ levels
