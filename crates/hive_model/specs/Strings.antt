-- Game strings: type, state, turn and moves, joined by semicolons.
use Rattle.std.specs.Prelude.{◌≡◌, ℕ, ◌≤◌, Bool, nat_eq, List, [], ◌∷◌, ◌++◌, length, codes, decimal, ◌⊎◌, if◌then◌else◌}
use Rattle.hive_model.specs.declared.pieces.Colour.{Colour}
use Rattle.hive_model.specs.declared.pieces.Colour.TheVariants.{White, Black}
use Rattle.hive_model.specs.declared.pieces.GameType.{GameType}
use Rattle.hive_model.specs.declared.places.Move.{Move}
use Rattle.hive_model.specs.declared.places.State.{State}
use Rattle.hive_model.specs.Lists.{onto}
use Rattle.hive_model.specs.Positions.{Position, opening}
use Rattle.hive_model.specs.Legal.{state}
use Rattle.hive_model.specs.Games.{after, replay, IsGame}
use Rattle.hive_model.specs.Denotes.{Denotes, text}
use Rattle.hive_model.specs.Fields.{type_bytes, state_bytes}
use Rattle.hive_model.specs.Repetition.{outcome_under, StandsUnder}

-- The parts between the semicolons. There is at least one.
unfoldable pub parts : List ℕ → List (List ℕ)
parts [] = [] ∷ []
parts (b ∷ bs) = if nat_eq b 59 then [] ∷ parts bs else onto b (parts bs)

-- the parts with semicolons between them
abbrev pub joined_on : List ℕ → List (List ℕ) → List ℕ
joined_on p [] = p
joined_on p (q ∷ qs) = p ++ 59 ∷ joined_on q qs

-- The turn is written `White[n]` or `Black[n]`.
abbrev pub side_name : Colour → List ℕ
side_name White = codes "White["
side_name Black = codes "Black["

abbrev pub turn_bytes : Colour → ℕ → List ℕ
turn_bytes side n = side_name side ++ (decimal n ++ 93 ∷ [])

-- the texts of the moves, each written on the board before it
abbrev pub texts : Position → List Move → List (List ℕ)
texts p [] = []
texts p (m ∷ ms) = text p.board m ∷ texts (after p m) ms

-- type, given state, turn and moves, joined by semicolons
abbrev pub string_with : GameType → State → Position → List (List ℕ) → List ℕ
string_with t s end rest =
    joined_on (type_bytes t) (state_bytes s ∷ turn_bytes end.side end.turn ∷ rest)

-- the same with the state of the position
abbrev pub string_from : GameType → Position → List (List ℕ) → List ℕ
string_from t end rest = string_with t (state end) end rest

-- the text of a game
unfoldable pub string : GameType → List Move → List ℕ
string t ms = string_from t (replay (opening t) ms) (texts (opening t) ms)

-- the same, with the outcome under the rule of third repetition as its state
unfoldable pub string_under : Bool → GameType → List Move → List ℕ
string_under r t ms =
    string_with t (outcome_under r t ms) (replay (opening t) ms) (texts (opening t) ms)

-- The texts denote the moves, each on the board before it.
abbrev pub DenoteMoves : Position → List (List ℕ) → List Move → Type 0
DenoteMoves p [] [] = Unit {0}
DenoteMoves p [] (m ∷ ms) = ⊥
DenoteMoves p (x ∷ xs) [] = ⊥
DenoteMoves p (x ∷ xs) (m ∷ ms) = Denotes p.game_type p.board x m × DenoteMoves (after p m) xs ms

-- The line has a type, a state, a turn and texts that denote the moves of a game of at most 5,000
-- moves. Its state is s, and its turn is that of the game.
pub record IsFullWith (line : List ℕ) (s : State) (t : GameType) (ms : List Move) : Type 0 where
  pub rest : List (List ℕ)
  pub parts_are : parts line ≡ type_bytes t
      ∷ (state_bytes s ∷ (turn_bytes (replay (opening t) ms).side (replay (opening t) ms).turn
      ∷ rest))
  pub denote : DenoteMoves (opening t) rest ms
  pub legal : IsGame t ms
  pub few : length ms ≤ 5000

-- The line's state is that of the game's position.
abbrev pub IsFull : List ℕ → GameType → List Move → Type 0
IsFull line t ms = IsFullWith line (state (replay (opening t) ms)) t ms

-- The line is the game. A type alone is its opening.
abbrev pub IsGameLine : List ℕ → GameType → List Move → Type 0
IsGameLine line t ms = ((line ≡ type_bytes t) × (ms ≡ [])) ⊎ IsFull line t ms

-- The line's state is the outcome under the rule of third repetition, and no move follows the end
-- of the game.
abbrev pub IsFullUnder : Bool → List ℕ → GameType → List Move → Type 0
IsFullUnder r line t ms = IsFullWith line (outcome_under r t ms) t ms × StandsUnder r t ms

-- The line is the game under the rule.
abbrev pub IsGameLineUnder : Bool → List ℕ → GameType → List Move → Type 0
IsGameLineUnder r line t ms = ((line ≡ type_bytes t) × (ms ≡ [])) ⊎ IsFullUnder r line t ms
