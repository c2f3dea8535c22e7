-- What the search of a node requires, of its moves, and of one move.
use Rattle.std.specs.Prelude.{◌≡◌, ℕ, ◌<◌, length}
use Rattle.hive_model.specs.declared.places.Move.{Move}
use Rattle.hive_model.specs.Legal.{moves}
use Rattle.hive_model.specs.Histories.{History, position}
use Rattle.hive_model.specs.Stack.{Levels, level_of}
use Rattle.search_laws.specs.Found.{IsOpen}
use Rattle.search_laws.specs.Nodes.{HasRoom, IsNode, CanReply}
use Rattle.search_core.specs.declared.workspace.Node.{Node}

-- the node's window is open, and there is room for its plies
pub record HasOpenRoom (node : Node) (game : History) (stack : Levels) : Type 0 where
  pub window : IsOpen node.window
  pub room : HasRoom node.depth game stack

-- the node's window is open, the game goes on, and its legal moves are on this level
pub record IsOpenNode (node : Node) (level : ℕ) (game : History) (stack : Levels) : Type 0 where
  pub window : IsOpen node.window
  pub listed : IsNode node.depth level game stack

-- the node's window is open, the move is legal, and there is room for it and for the plies after it
pub record MayReply (m : Move) (node : Node) (game : History) (stack : Levels) : Type 0 where
  pub window : IsOpen node.window
  pub can : CanReply m node.depth game stack

-- the legal moves of the game are on this level
pub record AreListed (level : ℕ) (game : History) (stack : Levels) : Type 0 where
  pub stands : level < length stack.lists
  pub listed : level_of stack level ≡ moves (position game)
