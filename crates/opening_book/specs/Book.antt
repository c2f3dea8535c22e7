-- The book of a position: how often each of its legal moves was made in played games. Positions
-- count as one if they differ only by turning, mirroring and shifting.
use Rattle.std.specs.Prelude.{◌≡◌, ℕ, ◌+◌, ◌<◌, ◌≤◌, List, [], ◌∷◌, length, slice_get, if◌then◌else◌}
use Rattle.std.specs.List.{sum_by}
use Rattle.std.specs.declared.option.Option.{Option}
use Rattle.std.specs.declared.option.Option.TheVariants.{None, Some}
use Rattle.hive_model.specs.declared.pieces.GameType.{GameType}
use Rattle.hive_model.specs.declared.places.Move.{Move}
use Rattle.hive_model.specs.Lists.{IsOn}
use Rattle.hive_model.specs.Boards.{IsBoard}
use Rattle.hive_model.specs.Positions.{Position, opening}
use Rattle.hive_model.specs.Legal.{moves}
use Rattle.hive_model.specs.Games.{after}
use Rattle.hive_model.specs.Keys.{KeyParts, key}
use Rattle.symmetry.specs.Takes.{takes_move}

-- a game that was played: its type and its moves
pub record BookGame : Type 0 where
  pub game_type : GameType
  pub made : List Move

-- 1 if some symmetry and shift map the position r to p and its move n to m; otherwise 0
abbrev pub ply_count : Position → Move → Position → Move → ℕ
ply_count p m r n = if takes_move (key r) n (key p) m then 1 else 0

-- how many of these moves, made one after another from r, count for m
abbrev pub line_count : Position → Move → Position → List Move → ℕ
line_count p m r [] = 0
line_count p m r (n ∷ ns) = ply_count p m r n + line_count p m (after r n) ns

-- how often the move m of p was made in these games
abbrev pub count : Position → Move → List BookGame → ℕ
count p m games = sum_by (λ g. line_count p m (opening g.game_type) g.made) games

-- m is the first of the legal moves that were made most often: n times, at least once
pub record IsBookMove (p : Position) (games : List BookGame) (m : Move) (n : ℕ) : Type 0 where
  pub place : ℕ
  pub move : slice_get (moves p) place ≡ Some m
  pub made : count p m games ≡ n
  pub some : 0 < n
  pub most : (j : ℕ) (k : Move) → slice_get (moves p) j ≡ Some k → count p k games ≤ n
  pub first : (j : ℕ) (k : Move) → j < place → slice_get (moves p) j ≡ Some k → count p k games < n

-- the book's answer: its move and how often it was made, or `None` if no legal move was ever made
abbrev pub IsBook : Position → List BookGame → Option (Move × ℕ) → Type 0
IsBook p games None = (m : Move) → IsOn (moves p) m → count p m games ≡ 0
IsBook p games (Some b) = IsBookMove p games b.0 b.1

-- What a tally holds

-- the key and the legal moves of a position, a count for each of them, and the number of plies
-- counted
pub record Counts : Type 0 where
  pub key : KeyParts
  pub moves : List Move
  pub counts : List ℕ
  pub plies : ℕ

-- it has the counts of the legal moves of p over these games
pub record IsTally (p : Position) (games : List BookGame) (t : Counts) : Type 0 where
  pub board : IsBoard p.board
  pub key_is : t.key ≡ key p
  pub moves_are : t.moves ≡ moves p
  pub counts_are : (j : ℕ) (m : Move) → slice_get (moves p) j ≡ Some m
      → slice_get t.counts j ≡ Some (count p m games)
  pub plies_are : t.plies ≡ sum_by (λ g. length g.made) games

-- A count for each move, none of them above the number of plies, which is below 2 to the power 40.
pub record IsKept (moves : List Move) (counts : List ℕ) (plies : ℕ) : Type 0 where
  pub long : length counts ≡ length moves
  pub low : (j n : ℕ) → slice_get counts j ≡ Some n → n ≤ plies
