-- The game of a line, or the first fault in the order of the faults, as a function that computes.
use Rattle.std.specs.Prelude.{◌≡◌, ℕ, ◌+◌, Bool, true, false, not, ◌&&◌, nat_eq, nat_le, nat_lt, List, [], ◌∷◌, ◌++◌, length, Option, Some, None, Result, Ok, Err, if◌then◌else◌}
use Rattle.std.specs.Str.{bytes_eq}
use Rattle.hive_model.specs.declared.pieces.GameType.{GameType}
use Rattle.hive_model.specs.declared.places.State.{State}
use Rattle.hive_model.specs.declared.places.Move.{Move}
use Rattle.hive_model.specs.Pieces.{is_colour}
use Rattle.hive_model.specs.Positions.{Position, opening}
use Rattle.hive_model.specs.Lists.{IsOn}
use Rattle.hive_model.specs.Legal.{moves}
use Rattle.hive_model.specs.Games.{after, replay}
use Rattle.hive_model.specs.Histories.{is_listed}
use Rattle.hive_model.specs.Fields.{state_bytes}
use Rattle.hive_model.specs.Keys.{KeyParts, key}
use Rattle.hive_model.specs.Repetition.{count_last, keys, outcome_under}
use Rattle.hive_model.specs.Strings.{parts}
use Rattle.move_text.specs.declared.faults.MoveFault.{MoveFault}
use Rattle.move_text.specs.Moves.{move_of}
use Rattle.move_text.specs.Readers.{type_at, state_at}
use Rattle.game_text.specs.declared.faults.GameFault.{GameFault}
use Rattle.game_text.specs.declared.faults.GameFault.TheVariants.{Malformed, TooLong, BadMove, IllegalMove, OtherState, OtherTurn, Memory}
use Rattle.game_text.specs.declared.parsed.Parsed.{Parsed}
use Rattle.game_text.specs.declared.turns.DeclaredTurn.{DeclaredTurn}
use Rattle.game_text.specs.Turns.{turn_at}

-- The moves, from the one with this number on

-- the moves in front, followed by those that were read
abbrev pub prefixed : List Move → Result (List Move) GameFault → Result (List Move) GameFault
prefixed front (Ok ms) = Ok (front ++ ms)
prefixed front (Err fault) = Err fault

abbrev pub if_legal : Bool → ℕ → Result (List Move) GameFault → Result (List Move) GameFault
if_legal true n rest = rest
if_legal false n rest = Err (IllegalMove n)

abbrev pub on_move : Result Move MoveFault → ℕ → (Move → Result (List Move) GameFault)
    → Result (List Move) GameFault
on_move (Err fault) n f = Err (BadMove n fault)
on_move (Ok m) n f = f m

-- The rule of third repetition is on, and the last of these positions occurs for the third time.
abbrev pub is_third : Bool → List KeyParts → Bool
is_third r seen = r && nat_le 3 (count_last seen)

-- The game is not drawn by that rule, and the move is legal. No move is legal if the game is over.
abbrev pub may_follow : Bool → List KeyParts → Position → Move → Bool
may_follow r seen p m = not (is_third r seen) && is_listed p m

-- The moves that the texts denote, each on the board before it, or the fault of the first that is
-- refused. The keys are those of the positions up to this one.
unfoldable pub moves_of : Bool → List KeyParts → Position → List (List ℕ) → ℕ
    → Result (List Move) GameFault
moves_of r seen p [] n = Ok []
moves_of r seen p (x ∷ xs) n =
    on_move (move_of p.game_type p.board x) n
    (λ m. if_legal (may_follow r seen p m) n
    (prefixed (m ∷ []) (moves_of r (seen ++ key (after p m) ∷ []) (after p m) xs (n + 1))))

-- the moves from the opening on
abbrev pub moves_from : Bool → GameType → List (List ℕ) → Result (List Move) GameFault
moves_from r t texts = moves_of r (keys t []) (opening t) texts 1

-- The line

-- the number of the first empty part, if the first part has the number k
abbrev pub first_empty : List (List ℕ) → ℕ → Option ℕ
first_empty [] k = None
first_empty ([] ∷ xs) k = Some k
first_empty ((b ∷ bs) ∷ xs) k = first_empty xs (k + 1)

-- states have different names
abbrev pub is_state : State → State → Bool
is_state s u = bytes_eq (state_bytes s) (state_bytes u)

abbrev pub is_turn_of : DeclaredTurn → Position → Bool
is_turn_of u end = is_colour u.side end.side && nat_eq u.number end.turn

-- The declared state must be the outcome of the game, and the declared turn that of its position.
abbrev pub confirmed : Bool → GameType → State → DeclaredTurn → Result (List Move) GameFault
    → Result Parsed GameFault
confirmed r t s u (Err fault) = Err fault
confirmed r t s u (Ok ms) =
    if is_state s (outcome_under r t ms) then
    (if is_turn_of u (replay (opening t) ms) then Ok (record { game_type = t; moves = ms })
    else Err OtherTurn)
    else Err OtherState

abbrev pub at_moves : Bool → GameType → State → DeclaredTurn → List (List ℕ) → Option ℕ
    → Result Parsed GameFault
at_moves r t s u rest (Some k) = Err (Malformed k)
at_moves r t s u rest None =
    if nat_lt 5000 (length rest) then Err TooLong else confirmed r t s u (moves_from r t rest)

abbrev pub at_turn : Bool → GameType → State → Option DeclaredTurn → List (List ℕ)
    → Result Parsed GameFault
at_turn r t s None rest = Err (Malformed 3)
at_turn r t s (Some u) rest = at_moves r t s u rest (first_empty rest 4)

abbrev pub after_state : Bool → GameType → State → List (List ℕ) → Result Parsed GameFault
after_state r t s [] = Err (Malformed 3)
after_state r t s (x ∷ rest) = at_turn r t s (turn_at x) rest

abbrev pub at_state : Bool → GameType → Option State → List (List ℕ) → Result Parsed GameFault
at_state r t None rest = Err (Malformed 2)
at_state r t (Some s) rest = after_state r t s rest

-- A type alone is its opening.
abbrev pub after_type : Bool → GameType → List (List ℕ) → Result Parsed GameFault
after_type r t [] = Ok (record { game_type = t; moves = [] })
after_type r t (x ∷ rest) = at_state r t (state_at x) rest

abbrev pub at_type : Bool → Option GameType → List (List ℕ) → Result Parsed GameFault
at_type r None rest = Err (Malformed 1)
at_type r (Some t) rest = after_type r t rest

abbrev pub game_at : Bool → List (List ℕ) → Result Parsed GameFault
game_at r [] = Err (Malformed 1)
game_at r (x ∷ rest) = at_type r (type_at x) rest

-- the game of a line, or its first fault, with the rule of third repetition on or off
unfoldable pub game_under : Bool → List ℕ → Result Parsed GameFault
game_under r line = game_at r (parts line)

-- the same with the rule off
abbrev pub game_of : List ℕ → Result Parsed GameFault
game_of = game_under false

-- What a reader returns

-- The fault is that of the function, unless memory ran out.
abbrev pub Fails : {X : Type 0} → GameFault → Result X GameFault → Type 0
Fails Memory read = Unit {0}
Fails (Malformed k) read = read ≡ Err (Malformed k)
Fails TooLong read = read ≡ Err TooLong
Fails (BadMove n fault) read = read ≡ Err (BadMove n fault)
Fails (IllegalMove n) read = read ≡ Err (IllegalMove n)
Fails OtherState read = read ≡ Err OtherState
Fails OtherTurn read = read ≡ Err OtherTurn

-- The result is that of the function, unless memory ran out.
abbrev pub Agrees : {X : Type 0} → Result X GameFault → Result X GameFault → Type 0
Agrees (Ok g) read = read ≡ Ok g
Agrees (Err fault) read = Fails fault read

-- The text denotes the move, which is legal in a game that is not drawn by the rule.
pub record Plays (r : Bool) (seen : List KeyParts) (p : Position) (x : List ℕ)
    (m : Move) : Type 0 where
  pub denoted : move_of p.game_type p.board x ≡ Ok m
  pub undrawn : is_third r seen ≡ false
  pub legal : IsOn (moves p) m

-- The text is refused on the board of the position, or the move that it denotes may not follow.
abbrev pub IsMoveFault : Bool → List KeyParts → Position → List ℕ → ℕ → GameFault → Type 0
IsMoveFault r seen p x n (BadMove k fault) = (k ≡ n) × (move_of p.game_type p.board x ≡ Err fault)
IsMoveFault r seen p x n (IllegalMove k) =
    (k ≡ n) × ((m : Move) × (move_of p.game_type p.board x ≡ Ok m)
    × (may_follow r seen p m ≡ false))
IsMoveFault r seen p x n Memory = ⊥
IsMoveFault r seen p x n (Malformed k) = ⊥
IsMoveFault r seen p x n TooLong = ⊥
IsMoveFault r seen p x n OtherState = ⊥
IsMoveFault r seen p x n OtherTurn = ⊥
