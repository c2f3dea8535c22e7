-- What holds of every match: which moves are played, and who is sent them.
use Rattle.std.specs.Prelude.{◌≡◌, ◌⊎◌, ℕ, ◌≤◌, Bool, true, false, cond, List, [], ◌∷◌, ◌++◌, IsTrue}
use Rattle.hive_model.specs.declared.pieces.Colour.{Colour}
use Rattle.hive_model.specs.declared.pieces.Colour.TheVariants.{White, Black}
use Rattle.hive_model.specs.declared.places.Move.{Move}
use Rattle.hive_model.specs.Denotes.{Denotes}
use Rattle.hive_model.specs.Lists.{IsOn}
use Rattle.hive_model.specs.Positions.{Position, opening}
use Rattle.hive_model.specs.Games.{after, replay, IsGame}
use Rattle.hive_model.specs.Repetition.{outcome_under, StandsUnder}
use Rattle.hive_model.specs.Legal.{is_over_state, moves as legal_moves}
use Rattle.match_core.specs.declared.setup.Setup.{Setup}
use Rattle.match_core.specs.Setups.{FullSetup, setup_plain, IsBegin}
use Rattle.match_core.specs.declared.stage.Task.TheVariants.{Greet, Begin, Ask, Tell}
use Rattle.match_core.specs.declared.stage.Stage.{Stage}
use Rattle.match_core.specs.declared.stage.Stage.TheVariants.{Send, Read, Before, After, Finished}
use Rattle.match_core.specs.Replies.{is_ok}
use Rattle.match_core.specs.Keeps.{IsFullSetup}
use Rattle.match_core.specs.Texts.{tell_line}
use Rattle.match_core.specs.MatchState.{MatchState, Happening, Sent, Line, TooLong, Ended, Broke, Reading, start, match_after, next, act_at, answers, ask, decide, line_for, position_now}

-- each of these events answers the next act
abbrev pub Answering : MatchState → List Happening → Type 0
Answering s [] = Unit {0}
Answering s (h ∷ hs) = IsTrue (answers (act_at s.stage) h) × Answering (next s h) hs

-- whether two sides are the same
abbrev pub is_side : Colour → Colour → Bool
is_side White White = true
is_side White Black = false
is_side Black White = false
is_side Black Black = true

-- the line that an event sends to a side
abbrev pub sent_at : MatchState → Stage → Happening → Colour → List (List ℕ)
sent_at s (Send job side) Sent to = cond (is_side side to) (line_for s job ∷ []) []
sent_at s (Send job side) (Line bytes) to = []
sent_at s (Send job side) TooLong to = []
sent_at s (Send job side) Ended to = []
sent_at s (Send job side) Broke to = []
sent_at s (Send job side) (Reading at) to = []
sent_at s (Read job side) h to = []
sent_at s Before h to = []
sent_at s After h to = []
sent_at s Finished h to = []

-- the lines that were sent to a side
abbrev pub sent : MatchState → List Happening → Colour → List (List ℕ)
sent s [] to = []
sent s (h ∷ hs) to = sent_at s s.stage h to ++ sent (next s h) hs to

-- the move that an event sends to a side
abbrev pub told_at : Stage → Happening → Colour → List Move
told_at (Send Greet side) h to = []
told_at (Send Begin side) h to = []
told_at (Send Ask side) h to = []
told_at (Send (Tell m) side) Sent to = cond (is_side side to) (m ∷ []) []
told_at (Send (Tell m) side) (Line bytes) to = []
told_at (Send (Tell m) side) TooLong to = []
told_at (Send (Tell m) side) Ended to = []
told_at (Send (Tell m) side) Broke to = []
told_at (Send (Tell m) side) (Reading at) to = []
told_at (Read job side) h to = []
told_at Before h to = []
told_at After h to = []
told_at Finished h to = []

-- the moves that a side was sent
abbrev pub told : MatchState → List Happening → Colour → List Move
told s [] to = []
told s (h ∷ hs) to = told_at s.stage h to ++ told (next s h) hs to

-- the line that is being sent is for a move
abbrev pub is_telling : Stage → Bool
is_telling (Send Greet side) = false
is_telling (Send Begin side) = false
is_telling (Send Ask side) = false
is_telling (Send (Tell m) side) = true
is_telling (Read job side) = false
is_telling Before = false
is_telling After = false
is_telling Finished = false

-- of the lines sent to a side, those that send it a move
abbrev pub telling_lines : MatchState → List Happening → Colour → List (List ℕ)
telling_lines s [] to = []
telling_lines s (h ∷ hs) to =
    cond (is_telling s.stage) (sent_at s s.stage h to) [] ++ telling_lines (next s h) hs to

-- the lines that send these moves, each made in the position after those before it
abbrev pub tell_lines : Position → List Move → List (List ℕ)
tell_lines p [] = []
tell_lines p (m ∷ ms) = tell_line p m ∷ tell_lines (after p m) ms

-- all moves were sent, or all but the last
abbrev pub WasTold : List Move → List Move → Type 0
WasTold told moves =
    (told ≡ moves) ⊎ ((before : List Move) × (last : Move) × (moves ≡ before ++ last ∷ [])
    × (told ≡ before))

-- a whole reply without its `ok`, and the side that gave it
pub record Reply : Type 0 where
  pub side : Colour
  pub lines : List (List ℕ)

-- the lines of the reply that is being read, and the last whole reply
pub record Heard : Type 0 where
  pub begun : List (List ℕ)
  pub last : Reply

-- before anything was heard
abbrev pub nothing_heard : Heard
nothing_heard = record { begun = []; last = record { side = White; lines = [] } }

-- what was heard after this event: a line is added to the reply that has begun, and `ok` ends it
abbrev pub heard_at : Stage → Heard → Happening → Heard
heard_at (Read job side) k (Line bytes) =
    cond (is_ok bytes) (record { begun = []; last = record { side = side; lines = k.begun } })
    (record { begun = k.begun ++ bytes ∷ []; last = k.last })
heard_at (Read job side) k Sent = k
heard_at (Read job side) k TooLong = k
heard_at (Read job side) k Ended = k
heard_at (Read job side) k Broke = k
heard_at (Read job side) k (Reading at) = k
heard_at (Send job side) k h = k
heard_at Before k h = k
heard_at After k h = k
heard_at Finished k h = k

-- what was heard after all these events
abbrev pub heard : MatchState → Heard → List Happening → Heard
heard s k [] = k
heard s k (h ∷ hs) = heard (next s h) (heard_at s.stage k h) hs

-- the first line; empty if there is none
abbrev pub first_of : List (List ℕ) → List ℕ
first_of [] = []
first_of (line ∷ lines) = line

-- A move is accepted. It is legal, and it is what the first line of the last whole reply denotes,
-- which the side to move gave.
pub record Accepts (s : MatchState) (reply : Reply) (m : Move) : Type 0 where
  pub side : reply.side ≡ (position_now s).side
  pub denotes : Denotes s.setup.game_type (position_now s).board (first_of reply.lines) m
  pub legal : IsOn (legal_moves (position_now s)) m

-- an event leaves the moves as they are, or accepts one
abbrev pub MovesOn : MatchState → MatchState → Reply → Type 0
MovesOn s t reply =
    (t.moves ≡ s.moves) ⊎ ((m : Move) × (t.moves ≡ s.moves ++ m ∷ []) × Accepts s reply m)

-- No move of the match follows the end of the game, under the rule of third repetition if that is
-- on. This says nothing of the moves with which the match begins.
abbrev pub StandsFrom : FullSetup → List Move → Type 0
StandsFrom setup moves =
    (front : List Move) (m : Move) (rest : List Move) → moves ≡ setup.begin ++ (front ++ m ∷ rest)
    → is_over_state (outcome_under setup.repetition setup.game_type (setup.begin ++ front)) ≡ false

-- the position after the moves with which the match begins
abbrev pub first_position : FullSetup → Position
first_position setup = replay (opening setup.game_type) setup.begin

-- The moves are a legal game that begins with those given, and no move of the match follows the end
-- of the game. Beyond those given, each side was sent all moves, or all but the last, each once and
-- in order. The lines that sent a side its moves are those for these moves.
pub record IsFair (setup : FullSetup) (hs : List Happening) : Type 0 where
  pub legal : IsGame setup.game_type (match_after setup hs).moves
  pub stands : StandsFrom setup (match_after setup hs).moves
  pub white : WasTold (setup.begin ++ told (start setup) hs White) (match_after setup hs).moves
  pub black : WasTold (setup.begin ++ told (start setup) hs Black) (match_after setup hs).moves
  pub white_lines : telling_lines (start setup) hs White
      ≡ tell_lines (first_position setup) (told (start setup) hs White)
  pub black_lines : telling_lines (start setup) hs Black
      ≡ tell_lines (first_position setup) (told (start setup) hs Black)

-- the same for a match that begins with the opening
pub record IsPlainFair (setup : Setup) (hs : List Happening) : Type 0 where
  pub legal : IsGame setup.game_type (match_after (setup_plain setup) hs).moves
  pub stands : StandsUnder setup.repetition setup.game_type
      (match_after (setup_plain setup) hs).moves
  pub white : WasTold (told (start (setup_plain setup)) hs White)
      (match_after (setup_plain setup) hs).moves
  pub black : WasTold (told (start (setup_plain setup)) hs Black)
      (match_after (setup_plain setup) hs).moves
  pub white_lines : telling_lines (start (setup_plain setup)) hs White
      ≡ tell_lines (opening setup.game_type) (told (start (setup_plain setup)) hs White)
  pub black_lines : telling_lines (start (setup_plain setup)) hs Black
      ≡ tell_lines (opening setup.game_type) (told (start (setup_plain setup)) hs Black)

-- the law of fair matches, for every list of events that answer the acts
pub record MatchesAreFair : Type 0 where
  pub fair : (setup : FullSetup) (hs : List Happening) → IsBegin setup
      → Answering (start setup) hs → IsFair setup hs
  pub plain : (setup : Setup) (hs : List Happening)
      → Answering (start (setup_plain setup)) hs → IsPlainFair setup hs
  pub read : (setup : FullSetup) (hs : List Happening) (h : Happening) → IsFullSetup setup
      → Answering (start setup) (hs ++ h ∷ []) →
      MovesOn (match_after setup hs) (match_after setup (hs ++ h ∷ []))
      (heard (start setup) nothing_heard (hs ++ h ∷ [])).last

-- before the first move of a match that may have a move, the side to move is asked once both sides
-- were sent the game
abbrev pub PlainMatchesAsk : Type 0
PlainMatchesAsk = (s : MatchState) → s.moves ≡ [] → 1 ≤ s.setup.limit → decide s ≡ ask s
