-- The game that a number makes.
use Rattle.std.specs.Prelude.{◌≡◌, ℕ, zero, suc, ◌+◌, ◌%◌, true, false, List, [], ◌∷◌, length, slice_get, Option, Some, None, if◌then◌else◌}
use Rattle.std.specs.Int.{w64, from_le_bytes, to_le_bytes}
use Rattle.rand_xoshiro.specs.SplitMix64.{mix_u64}
use Rattle.hive_model.specs.declared.best.Best.{Best}
use Rattle.hive_model.specs.declared.pieces.GameType.{GameType}
use Rattle.hive_model.specs.declared.places.Move.{Move}
use Rattle.hive_model.specs.Positions.{Position, opening}
use Rattle.hive_model.specs.Legal.{is_over, moves}
use Rattle.hive_model.specs.Games.{after}
use Rattle.hive_model.specs.Minimax.{best, value}

-- the base game with all three expansions
abbrev pub full_type : GameType
full_type = record { mosquito = true; ladybug = true; pillbug = true }

-- its opening
abbrev pub start : Position
start = opening full_type

-- SplitMix64 as a seed starts it: its state is the number whose eight bytes are the seed's, the
-- least significant first
abbrev pub seeded : ℕ → ℕ
seeded seed = from_le_bytes w64 (to_le_bytes w64 seed)

-- the next word of the generator in a state, and the state after it
abbrev pub word : ℕ → ℕ
word state = (mix_u64 state).0

abbrev pub next_state : ℕ → ℕ
next_state state = (mix_u64 state).1

-- the move that a word draws from a list: the one at place (word modulo the length of the list)
abbrev pub drawn : ℕ → List Move → Option Move
drawn w ms = slice_get ms (w % length ms)

-- a move and those that follow it; nothing if there is no move
abbrev pub followed : Option Move → (Move → List Move) → List Move
followed None rest = []
followed (Some m) rest = m ∷ rest m

-- The moves that a generator in this state makes from a position in at most n plies. While the game
-- is not over and a ply is left, one word draws a move from the list of legal moves. That move is
-- played.
unfoldable pub grown : ℕ → ℕ → Position → List Move
grown state zero p = []
grown state (suc n) p =
    if is_over p
    then []
    else followed (drawn (word state) (moves p)) (λ m. grown (next_state state) n (after p m))

-- the moves that a seed makes from the opening, in at most this number of plies
abbrev pub grown_moves : ℕ → ℕ → List Move
grown_moves seed plies = grown (seeded seed) plies start

-- the number of moves from which the moves were chosen in all: the sum of the lengths of the lists
-- of legal moves before each of them
unfoldable pub choices : Position → List Move → ℕ
choices p [] = 0
choices p (m ∷ ms) = length (moves p) + choices (after p m) ms

-- the best move of depth 1 of a position whose game goes on, and its value there
pub record IsBestHere (p : Position) (b : Best) : Type 0 where
  pub goes_on : is_over p ≡ false
  pub first : best p 1 ≡ Some b.best
  pub worth : b.value ≡ value p 1

-- the answer for a position: its best move, or `None` if and only if the game is over
abbrev pub TellsBest : Position → Option Best → Type 0
TellsBest p None = is_over p ≡ true
TellsBest p (Some b) = IsBestHere p b
