-- The text of the certificate of a best move.
use Rattle.std.specs.Prelude.{◌≡◌, ℕ, ◌-◌, ◌<◌, ◌≤◌, List, [], ◌++◌, length, take, ℤ, Option, Some, None, Result, Ok, Err, false}
use Rattle.io_edge.specs.Outside.{Told, behind}
use Rattle.hive_model.specs.declared.pieces.GameType.{GameType}
use Rattle.hive_model.specs.declared.places.Move.{Move}
use Rattle.hive_model.specs.declared.best.Best.{Best}
use Rattle.hive_model.specs.Positions.{Position, opening}
use Rattle.hive_model.specs.Legal.{is_over, moves}
use Rattle.hive_model.specs.Games.{replay}
use Rattle.hive_model.specs.Histories.{History, position}
use Rattle.hive_model.specs.Minimax.{value, best}
use Rattle.certificate_walks.specs.Walks.{place_of}
use Rattle.strategy_check.specs.Least.{least_moves}
use Rattle.certificate_text.specs.Text.{head_text}
use Rattle.certificate_indices.specs.Writing.{index_lines}
use Rattle.strategy_make.specs.declared.fault.MakeFault.{MakeFault}
use Rattle.strategy_make.specs.declared.fault.MakeFault.TheVariants.{WriteFault, Memory}

-- A game for whose best move at a depth a certificate may be made. It is not over, and has at most
-- 5,000 moves. The depth is from 1 to 64, and there is room for that number of plies.
pub record MayMake (c : History) (depth : ℕ) : Type 0 where
  pub goes_on : is_over (position c) ≡ false
  pub few : length c.made ≤ 5000
  pub some : 1 ≤ depth
  pub deep : depth ≤ 64
  pub spare : depth ≤ c.spare

-- the indices, given the place of the move among the legal moves; none if it is not there
abbrev pub least_at : Position → ℕ → Move → ℤ → Option ℕ → List ℕ
least_at p d m v None = []
least_at p d m v (Some k) = least_moves p (d - 1) k m v

-- the least indices that show that a legal move is best with d plies searched, and that the
-- position is worth v
abbrev pub least_indices : Position → ℕ → Move → ℤ → List ℕ
least_indices p d m v = least_at p d m v (place_of m (moves p))

-- The certificate that m is a game's best move at a depth, and that the game is worth v: the head,
-- then the least indices.
unfoldable pub certificate : GameType → List Move → ℕ → Move → ℤ → List ℕ
certificate t ms d m v =
    head_text 1 t ms d m v ++ index_lines (least_indices (replay (opening t) ms) d m v)

-- the certificate of this move and of the value of the game's position; nothing if there is no move
abbrev pub certificate_of : History → ℕ → Option Move → List ℕ
certificate_of c d None = []
certificate_of c d (Some m) = certificate c.game_type c.made d m (value (position c) d)

-- What was written, by the answer: the certificate of the answered move and value; if a write
-- failed, the first n bytes of the certificate of the best move, and not all; if memory ran out,
-- nothing.
abbrev pub Makes : Result Best MakeFault → History → ℕ → Told → Told → Type 0
Makes (Ok b) c d old new = new ≡ behind old (certificate c.game_type c.made d b.best b.value)
Makes (Err WriteFault) c d old new =
    (n : ℕ) × (n < length (certificate_of c d (best (position c) d)))
    × (new ≡ behind old (take n (certificate_of c d (best (position c) d))))
Makes (Err Memory) c d old new = new ≡ old
