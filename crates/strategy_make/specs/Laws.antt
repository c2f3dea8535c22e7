-- Laws of the certificates that are written.
use Rattle.std.specs.Prelude.{◌≡◌, ℕ, ◌≤◌, List, length, drop, map, ℤ, Some, Ok}
use Rattle.hive_model.specs.declared.pieces.GameType.{GameType}
use Rattle.hive_model.specs.declared.best.Best.{Best}
use Rattle.hive_model.specs.declared.places.Move.{Move}
use Rattle.hive_model.specs.Lists.{IsOn}
use Rattle.hive_model.specs.Positions.{Position, opening}
use Rattle.hive_model.specs.Legal.{moves}
use Rattle.hive_model.specs.Games.{replay, IsGame}
use Rattle.hive_model.specs.Histories.{History, position}
use Rattle.hive_model.specs.Minimax.{IsInner, value, best}
use Rattle.hive_model.specs.Denotes.{text}
use Rattle.io_edge.specs.Lines.{lines}
use Rattle.search_laws.specs.Laws.{IsSmall}
use Rattle.strategy_check.specs.Trace.{Holds}
use Rattle.certificate_text.specs.declared.head.Head.{Head}
use Rattle.certificate_text.specs.Text.{head_of, index_in}
use Rattle.strategy_make.specs.Making.{least_indices, certificate}

-- the least indices show that the best move is best, and its value
abbrev pub LeastIndicesHold : Type 0
LeastIndicesHold =
    (p : Position) (d : ℕ) (m : Move) → IsInner p d → best p d ≡ Some m
    → Holds p d m (value p d) (least_indices p d m (value p d))

-- the claim of a game's certificate: a move in its written text, at a depth, with a value
abbrev pub claimed : GameType → List Move → ℕ → Move → ℤ → Head
claimed t ms d m v = record {
  version = 1;
  game_type = t;
  moves = ms;
  claim_text = text (replay (opening t) ms).board m;
  depth = d;
  value = v;
}

-- What a certificate may claim. The game has at most 5,000 moves, and the move is legal in the
-- position after them. The depth is from 1 to 64, and the value is in range.
pub record MayClaim (t : GameType) (ms : List Move) (d : ℕ) (m : Move) (v : ℤ) : Type 0 where
  pub game : IsGame t ms
  pub few : length ms ≤ 5000
  pub legal : IsOn (moves (replay (opening t) ms)) m
  pub some : 1 ≤ d
  pub deep : d ≤ 64
  pub small : IsSmall 1000064 v

-- the best move of a game at a depth, and its value; a certificate may claim both
pub record IsBestAnswer (c : History) (depth : ℕ) (b : Best) : Type 0 where
  pub first : best (position c) depth ≡ Some b.best
  pub worth : b.value ≡ value (position c) depth
  pub claim : MayClaim c.game_type c.made depth b.best b.value

-- the lines of a certificate have exactly the head that was written
abbrev pub HeadsAreRead : Type 0
HeadsAreRead =
    (t : GameType) (ms : List Move) (d : ℕ) (m : Move) (v : ℤ) → MayClaim t ms d m v
    → head_of 1 (lines (certificate t ms d m v)) ≡ Ok (claimed t ms d m v)

-- each of the lines after the head is the index that was written there
abbrev pub IndicesAreRead : Type 0
IndicesAreRead =
    (t : GameType) (ms : List Move) (d : ℕ) (m : Move) (v : ℤ) → MayClaim t ms d m v
    → map index_in (drop 5 (lines (certificate t ms d m v)))
    ≡ map (λ i. Some i) (least_indices (replay (opening t) ms) d m v)
