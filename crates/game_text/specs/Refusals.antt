-- When a line is not a game. Each fault is stated in the rule's own words, and holds exactly if no
-- earlier one does.
use Rattle.std.specs.Prelude.{◌≡◌, ◌≢◌, Bool, false, IsTrue, ℕ, ◌+◌, ◌≤◌, ◌<◌, List, [], ◌∷◌, ◌++◌, length, ◌⊎◌}
use Rattle.hive_model.specs.declared.pieces.GameType.{GameType}
use Rattle.hive_model.specs.declared.places.State.{State}
use Rattle.hive_model.specs.declared.places.Move.{Move}
use Rattle.hive_model.specs.Lists.{IsOn}
use Rattle.hive_model.specs.Positions.{opening}
use Rattle.hive_model.specs.Legal.{is_over_state, moves}
use Rattle.hive_model.specs.Games.{replay, IsGame}
use Rattle.hive_model.specs.Denotes.{Denotes}
use Rattle.hive_model.specs.Repetition.{outcome_under, StandsUnder}
use Rattle.hive_model.specs.Fields.{type_bytes, state_bytes}
use Rattle.hive_model.specs.Strings.{parts, turn_bytes, DenoteMoves}
use Rattle.move_text.specs.declared.faults.MoveFault.{MoveFault}
use Rattle.move_text.specs.Faults.{Refuses}
use Rattle.game_text.specs.declared.faults.GameFault.{GameFault}
use Rattle.game_text.specs.declared.faults.GameFault.TheVariants.{Malformed, TooLong, BadMove, IllegalMove, OtherState, OtherTurn, Memory}
use Rattle.game_text.specs.declared.turns.DeclaredTurn.{DeclaredTurn}
use Rattle.game_text.specs.Turns.{IsTurn}

-- The first part is not a type.
pub record IsNoType (line : List ℕ) : Type 0 where
  pub part : List ℕ
  pub rest : List (List ℕ)
  pub parts_are : parts line ≡ part ∷ rest
  pub none : (t : GameType) → part ≢ type_bytes t

-- The first part is a type, and the second is not a state.
pub record IsNoState (line : List ℕ) : Type 0 where
  pub game_type : GameType
  pub part : List ℕ
  pub rest : List (List ℕ)
  pub parts_are : parts line ≡ type_bytes game_type ∷ (part ∷ rest)
  pub none : (s : State) → part ≢ state_bytes s

-- The first parts are a type and a state, and the third is absent or not a turn.
pub record IsNoTurn (line : List ℕ) : Type 0 where
  pub game_type : GameType
  pub declared : State
  pub rest : List (List ℕ)
  pub parts_are : parts line ≡ type_bytes game_type ∷ (state_bytes declared ∷ rest)
  pub none : (part : List ℕ) (texts : List (List ℕ)) → rest ≡ part ∷ texts → (u : DeclaredTurn)
      → ¬ IsTurn part u

-- The parts are a type, a state, a turn and further texts.
pub record HasParts (line : List ℕ) (t : GameType) (s : State) (u : DeclaredTurn)
    (texts : List (List ℕ)) : Type 0 where
  pub parts_are : parts line ≡ type_bytes t ∷ (state_bytes s ∷ (turn_bytes u.side u.number ∷ texts))
  pub low : 1 ≤ u.number
  pub high : u.number ≤ 999999999

-- none of the texts is empty
abbrev pub AreNotEmpty : List (List ℕ) → Type 0
AreNotEmpty texts = (text : List ℕ) → IsOn texts text → text ≢ []

-- The first parts are a type, a state and a turn. The part with this number is the first empty one
-- from the fourth on.
pub record IsEmptyMove (line : List ℕ) (number : ℕ) : Type 0 where
  pub game_type : GameType
  pub declared : State
  pub turn : DeclaredTurn
  pub front : List (List ℕ)
  pub behind : List (List ℕ)
  pub parts_are : HasParts line game_type declared turn (front ++ [] ∷ behind)
  pub before : AreNotEmpty front
  pub counted : number ≡ 4 + length front

-- The part with this number is the first that is absent or malformed.
abbrev pub IsMalformed : List ℕ → ℕ → Type 0
IsMalformed line number =
    ((number ≡ 1) × IsNoType line) ⊎ (((number ≡ 2) × IsNoState line)
    ⊎ (((number ≡ 3) × IsNoTurn line) ⊎ IsEmptyMove line number))

-- The parts are a type, a state, a turn and texts none of which is empty.
pub record HasForm (line : List ℕ) (t : GameType) (s : State) (u : DeclaredTurn)
    (texts : List (List ℕ)) : Type 0 where
  pub parts_are : HasParts line t s u texts
  pub none_empty : AreNotEmpty texts

-- The line is well formed and has more than 5,000 moves.
pub record IsTooLong (line : List ℕ) : Type 0 where
  pub game_type : GameType
  pub declared : State
  pub turn : DeclaredTurn
  pub texts : List (List ℕ)
  pub form : HasForm line game_type declared turn texts
  pub long : 5000 < length texts

-- The line is well formed and has at most 5,000 moves. The moves before this one are a game, none
-- of them after its end, and this is the text of the next one.
pub record IsReadUpTo (r : Bool) (line : List ℕ) (number : ℕ) (t : GameType) (ms : List Move)
    (text : List ℕ) : Type 0 where
  pub declared : State
  pub turn : DeclaredTurn
  pub front : List (List ℕ)
  pub behind : List (List ℕ)
  pub form : HasForm line t declared turn (front ++ text ∷ behind)
  pub few : length (front ++ text ∷ behind) ≤ 5000
  pub counted : number ≡ 1 + length front
  pub denote : DenoteMoves (opening t) front ms
  pub legal : IsGame t ms
  pub stands : StandsUnder r t ms

-- The text of the first move that is refused does not denote a move on its board.
pub record IsBadMove (r : Bool) (line : List ℕ) (number : ℕ) (fault : MoveFault) : Type 0 where
  pub game_type : GameType
  pub made : List Move
  pub text : List ℕ
  pub read : IsReadUpTo r line number game_type made text
  pub refuses : Refuses (replay (opening game_type) made).game_type
      (replay (opening game_type) made).board text fault

-- The first move that is refused is not legal, or follows the end of the game.
pub record IsIllegalMove (r : Bool) (line : List ℕ) (number : ℕ) : Type 0 where
  pub game_type : GameType
  pub made : List Move
  pub text : List ℕ
  pub move : Move
  pub read : IsReadUpTo r line number game_type made text
  pub denotes : Denotes (replay (opening game_type) made).game_type
      (replay (opening game_type) made).board text move
  pub illegal : (¬ IsOn (moves (replay (opening game_type) made)) move)
      ⊎ IsTrue (is_over_state (outcome_under r game_type made))

-- The line is well formed and has at most 5,000 moves. They are a game, none of them after its end.
pub record IsReadWhole (r : Bool) (line : List ℕ) : Type 0 where
  pub game_type : GameType
  pub declared : State
  pub turn : DeclaredTurn
  pub texts : List (List ℕ)
  pub made : List Move
  pub form : HasForm line game_type declared turn texts
  pub few : length texts ≤ 5000
  pub denote : DenoteMoves (opening game_type) texts made
  pub legal : IsGame game_type made
  pub stands : StandsUnder r game_type made

-- The declared state is not the outcome of the game.
pub record IsOtherState (r : Bool) (line : List ℕ) : Type 0 where
  pub read : IsReadWhole r line
  pub other : read.declared ≢ outcome_under r read.game_type read.made

-- The declared state is the outcome of the game, and the declared turn is not that of the game.
pub record IsOtherTurn (r : Bool) (line : List ℕ) : Type 0 where
  pub read : IsReadWhole r line
  pub same : read.declared ≡ outcome_under r read.game_type read.made
  pub other : ¬ ((read.turn.side ≡ (replay (opening read.game_type) read.made).side)
      × (read.turn.number ≡ (replay (opening read.game_type) read.made).turn))

-- The line is refused with this fault, with the rule of third repetition on or off. Running out of
-- memory is not a fault of the line.
abbrev pub IsRefusedUnder : Bool → List ℕ → GameFault → Type 0
IsRefusedUnder r line (Malformed k) = IsMalformed line k
IsRefusedUnder r line TooLong = IsTooLong line
IsRefusedUnder r line (BadMove n fault) = IsBadMove r line n fault
IsRefusedUnder r line (IllegalMove n) = IsIllegalMove r line n
IsRefusedUnder r line OtherState = IsOtherState r line
IsRefusedUnder r line OtherTurn = IsOtherTurn r line
IsRefusedUnder r line Memory = ⊥

-- the same with the rule off
abbrev pub IsRefused : List ℕ → GameFault → Type 0
IsRefused = IsRefusedUnder false
