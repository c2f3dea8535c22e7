-- Classes of the legal moves of a position, and what they are worth in a count.
use Rattle.std.specs.Prelude.{◌≡◌, ◌⊎◌, ℕ, suc, ◌+◌, ◌*◌, ◌<◌, ◌≤◌, List}
use Rattle.std.specs.List.{All, sum_by}
use Rattle.hive_model.specs.declared.places.Move.{Move}
use Rattle.hive_model.specs.declared.places.Place.{Place}
use Rattle.hive_model.specs.Boards.{IsBoard}
use Rattle.hive_model.specs.Lists.{IsOn}
use Rattle.hive_model.specs.Positions.{Position}
use Rattle.hive_model.specs.Legal.{moves}
use Rattle.hive_model.specs.Games.{IsGame, after}
use Rattle.hive_model.specs.Histories.{History, position, with_move}
use Rattle.hive_model.specs.Keys.{KeyParts, key}
use Rattle.hive_model.specs.Minimax.{lines}
use Rattle.symmetry.specs.Alike.{Alike}
use Rattle.count_share.specs.declared.classes.MoveClass.{MoveClass}

-- the lists of n + 1 legal moves that begin with a move of this class
abbrev pub lines_by : Position → ℕ → MoveClass → ℕ
lines_by p n c = c.weight * lines (after p c.moved) n

-- those that begin with a move of one of these classes
abbrev pub lines_of : Position → ℕ → List MoveClass → ℕ
lines_of p n cs = sum_by (lines_by p n) cs

-- positions with these keys are alike
abbrev pub AreAlike : KeyParts → KeyParts → Type 0
AreAlike a b =
    (p r : Position) → IsBoard p.board → IsBoard r.board → a ≡ key p → b ≡ key r
    → (s : ℕ) × (t : Place) × Alike p r s t

-- The move is in a class: it is the move of the class, or the positions after both are alike.
pub record IsCovered (p : Position) (cs : List MoveClass) (m : Move) : Type 0 where
  pub class : MoveClass
  pub listed : IsOn cs class
  pub like : (class.moved ≡ m) ⊎ AreAlike class.key (key (after p m))

-- Each class has a legal move of the position, and the key of the position after it. Each legal
-- move is in a class. Counts of up to 8 plies are those of the classes,
-- added up: the lists behind the move of each, times the number of its moves.
pub record AreClasses (p : Position) (cs : List MoveClass) : Type 0 where
  pub legal : All (λ c. IsOn (moves p) c.moved) cs
  pub keyed : All (λ c. c.key ≡ key (after p c.moved)) cs
  pub covers : (m : Move) → IsOn (moves p) m → IsCovered p cs m
  pub adds_up : (n : ℕ) → n < 8 → lines_of p n cs ≡ lines p (suc n)

-- How they are found

-- A class of the legal moves of a game: its move is legal, and its key that of the position after
-- the move.
pub record IsClass (game : History) (c : MoveClass) : Type 0 where
  pub legal : IsOn (moves (position game)) c.moved
  pub goes_on : IsGame game.game_type (with_move game c.moved).made
  pub keyed : c.key ≡ key (after (position game) c.moved)

-- One more move was added to the classes.
pub record HasOneMore (game : History) (m : Move) (before now : List MoveClass) : Type 0 where
  pub classes : All (IsClass game) before → All (IsClass game) now
  pub counts : All (IsClass game) before → (n : ℕ) → n < 8
      → lines_of (position game) n now
      ≡ lines_of (position game) n before + lines (after (position game) m) n
  pub covers : (n : Move) → IsCovered (position game) before n → IsCovered (position game) now n
  pub added : IsCovered (position game) now m
  pub weights : (k : ℕ) → All (λ c. c.weight ≤ k) before → All (λ c. c.weight ≤ k + 1) now
