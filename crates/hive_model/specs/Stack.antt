-- What contracts see of a stack of moves.
use Rattle.std.specs.Prelude.{ℕ, ◌+◌, ◌-◌, List, [], ◌∷◌, ◌++◌, take, length, slice_index_or}
use Rattle.hive_model.specs.declared.places.Move.{Move}

-- the lists of moves, from the first level on, and the number of further levels that there is room
-- for
pub record Levels : Type 0 where
  pub lists : List (List Move)
  pub free : ℕ

-- the moves of a level
abbrev pub level_of : Levels → ℕ → List Move
level_of s level = slice_index_or s.lists level []

-- the stack with one more level, which holds these moves
abbrev pub with_level : Levels → List Move → Levels
with_level s moves = record { lists = s.lists ++ moves ∷ []; free = s.free - 1 }

-- the stack without its last level
abbrev pub without_level : Levels → Levels
without_level s = record { lists = take (length s.lists - 1) s.lists; free = s.free + 1 }

-- the stack with one more move at the end of its last level
abbrev pub with_move_on_top : Levels → Move → Levels
with_move_on_top s m =
    with_level (without_level s) (level_of s (length s.lists - 1) ++ m ∷ [])
