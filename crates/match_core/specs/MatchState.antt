-- The state of a match, as a fold over its events.
use Rattle.std.specs.Prelude.{ℕ, ◌+◌, ◌-◌, Bool, true, false, cond, nat_lt, nat_le, List, [], ◌∷◌, ◌++◌, length, take, Option, Some, None, unwrap_or, Result, Ok, Err}
use Rattle.hive_model.specs.declared.pieces.Colour.{Colour}
use Rattle.hive_model.specs.declared.pieces.Colour.TheVariants.{White, Black}
use Rattle.hive_model.specs.declared.places.Move.{Move}
use Rattle.hive_model.specs.Positions.{Position, opening}
use Rattle.hive_model.specs.declared.places.State.{State}
use Rattle.hive_model.specs.Games.{replay}
use Rattle.hive_model.specs.Legal.{is_over_state}
use Rattle.hive_model.specs.Repetition.{outcome_under}
use Rattle.hive_model.specs.Histories.{is_listed}
use Rattle.move_text.specs.declared.faults.MoveFault.{MoveFault}
use Rattle.match_core.specs.Setups.{FullSetup}
use Rattle.match_core.specs.declared.setup.Level.{Level}
use Rattle.match_core.specs.declared.setup.Level.TheVariants.{Depth, Time}
use Rattle.match_core.specs.declared.stage.Task.{Task}
use Rattle.match_core.specs.declared.stage.Task.TheVariants.{Greet, Begin, Ask, Tell}
use Rattle.match_core.specs.declared.stage.Stage.{Stage}
use Rattle.match_core.specs.declared.stage.Stage.TheVariants.{Send, Read, Before, After, Finished}
use Rattle.match_core.specs.declared.stage.Act.{Act}
use Rattle.match_core.specs.declared.stage.Act.TheVariants.{Send as SendAct, Read as ReadAct, Clock, Finish}
use Rattle.match_core.specs.declared.verdict.Cause.{Cause}
use Rattle.match_core.specs.declared.verdict.Cause.TheVariants.{NotAMove, Illegal, ErrLine, Flood, LongLine, Ended as EndedCause, Broke as BrokeCause, Late}
use Rattle.match_core.specs.declared.verdict.Verdict.{Verdict}
use Rattle.match_core.specs.declared.verdict.Verdict.TheVariants.{Rules, Limit, Forfeit}
use Rattle.match_core.specs.declared.stage.Event.{Event}
use Rattle.match_core.specs.declared.stage.Event.TheVariants.{Sent as SentEvent, Line as LineEvent, TooLong as TooLongEvent, Ended as EndedEvent, Broke as BrokeEvent, Reading as ReadingEvent}
use Rattle.match_core.specs.Replies.{is_ok, is_error}
use Rattle.match_core.specs.Texts.{read_of, begin_line, ask_line, tell_line}

-- what happened when an act was done
pub data Happening : Type 0 where
  Sent : Happening
  Line : (bytes : List ℕ) → Happening
  TooLong : Happening
  Ended : Happening
  Broke : Happening
  Reading : (at : ℕ) → Happening

-- the line matters only for the event Line
abbrev pub happening : Event → List ℕ → Happening
happening SentEvent line = Sent
happening LineEvent line = Line line
happening TooLongEvent line = TooLong
happening EndedEvent line = Ended
happening BrokeEvent line = Broke
happening (ReadingEvent at) line = Reading at

-- A match: its setup, its moves, its stage and its verdict. Of the current question it has the
-- first clock reading, and of the current reply the first line and the number of lines.
pub record MatchState : Type 0 where
  pub setup : FullSetup
  pub moves : List Move
  pub stage : Stage
  pub asked : ℕ
  pub first : Option (List ℕ)
  pub count : ℕ
  pub verdict : Option Verdict

-- the match with these parts
abbrev pub match_state :
    FullSetup → List Move → Stage → ℕ → Option (List ℕ) → ℕ → Option Verdict → MatchState
match_state setup moves stage asked first count verdict =
    record {
      setup = setup;
      moves = moves;
      stage = stage;
      asked = asked;
      first = first;
      count = count;
      verdict = verdict;
    }

-- the position after the moves
abbrev pub position_now : MatchState → Position
position_now s = replay (opening s.setup.game_type) s.moves

-- the position before the last move
abbrev pub position_before : MatchState → Position
position_before s = replay (opening s.setup.game_type) (take (length s.moves - 1) s.moves)

-- the moves with which the match begins are made, and white's greeting is read first
abbrev pub start : FullSetup → MatchState
start setup = match_state setup setup.begin (Read Greet White) 0 None 0 None

-- the next act
abbrev pub act_at : Stage → Act
act_at (Send job side) = SendAct side
act_at (Read job side) = ReadAct side
act_at Before = Clock
act_at After = Clock
act_at Finished = Finish

-- the line to send
abbrev pub line_for : MatchState → Task → List ℕ
line_for s Greet = []
line_for s Begin = begin_line s.setup
line_for s Ask = ask_line s.setup.level
line_for s (Tell told) = tell_line (position_before s) told

-- goes on to a stage, with nothing read of a reply yet
abbrev pub go : MatchState → Stage → MatchState
go s stage = record s { stage = stage; first = None; count = 0 }

-- the match is over
abbrev pub finish : MatchState → Verdict → MatchState
finish s verdict = record s { stage = Finished; first = None; count = 0; verdict = Some verdict }

-- a side forfeits for this cause
abbrev pub forfeit : MatchState → Colour → Cause → MatchState
forfeit s side cause = finish s (Forfeit side cause)

-- the side to move is asked; with a time, the clock is read first
abbrev pub question : Level → Colour → Stage
question (Depth depth) side = Send Ask side
question (Time budget margin) side = Before

-- the side to move is asked
unfoldable pub ask : MatchState → MatchState
ask s = go s (question s.setup.level (position_now s).side)

-- a move is accepted: it is played, and then sent to white and to black
abbrev pub accept : MatchState → Move → MatchState
accept s m =
    record s { moves = s.moves ++ m ∷ []; stage = Send (Tell m) White; first = None; count = 0 }

-- the first line of a reply; empty if there is none
abbrev pub first_line : MatchState → List ℕ
first_line s = unwrap_or s.first []

-- the side to move forfeits if its line is no move, or a move that is not legal
abbrev pub judge_read : MatchState → List ℕ → Result Move MoveFault → MatchState
judge_read s line (Err fault) = forfeit s (position_now s).side (NotAMove line)
judge_read s line (Ok m) =
    cond (is_listed (position_now s) m) (accept s m)
    (forfeit s (position_now s).side (Illegal line))

-- the reply of the side to move is judged
unfoldable pub judge : MatchState → MatchState
judge s =
    judge_read s (first_line s) (read_of s.setup.game_type (position_now s).board (first_line s))

-- How the game goes on or ended. Its position may end it. Otherwise it is drawn if the match is
-- played with the rule of third repetition and the position occurs for the third time.
abbrev pub outcome_of : MatchState → State
outcome_of s = outcome_under s.setup.repetition s.setup.game_type s.moves

-- both sides know all moves
unfoldable pub decide : MatchState → MatchState
decide s =
    cond (is_over_state (outcome_of s)) (finish s (Rules (outcome_of s)))
    (cond (nat_le s.setup.limit (length s.moves)) (finish s Limit) (ask s))

-- a reply to a question has ended; if the side has a time, the clock is read before the reply is
-- judged
abbrev pub answered : MatchState → Level → MatchState
answered s (Depth depth) = judge s
answered s (Time budget margin) = record s { stage = After }

-- a reply has ended
abbrev pub reply_ends : MatchState → Task → Colour → MatchState
reply_ends s Greet White = go s (Read Greet Black)
reply_ends s Greet Black = go s (Send Begin White)
reply_ends s Begin White = go s (Send Begin Black)
reply_ends s Begin Black = decide s
reply_ends s Ask side = answered s s.setup.level
reply_ends s (Tell told) White = go s (Send (Tell told) Black)
reply_ends s (Tell told) Black = decide s

-- a line of a reply that does not end it
abbrev pub keep : MatchState → Stage → List ℕ → MatchState
keep s stage line =
    record s { stage = stage; first = Some (unwrap_or s.first line); count = s.count + 1 }

-- a line of a reply ends it, reports an error, is the 1,001st, or is kept
abbrev pub hear : MatchState → Task → Colour → List ℕ → MatchState
hear s job side line =
    cond (is_ok line) (reply_ends s job side)
    (cond (is_error line) (forfeit s side (ErrLine line))
    (cond (nat_le 1000 s.count) (forfeit s side (Flood 1001)) (keep s (Read job side) line)))

-- the last moment at which an answer is in time: the time and the margin after the question
abbrev pub latest : Level → ℕ → ℕ
latest (Depth depth) asked = asked
latest (Time budget margin) asked = asked + budget + margin

-- an answer after that moment is late
abbrev pub is_late : MatchState → ℕ → Bool
is_late s at = nat_lt (latest s.setup.level s.asked) at

-- the result of sending a line
abbrev pub at_send : MatchState → Task → Colour → Happening → MatchState
at_send s job side Sent = go s (Read job side)
at_send s job side Broke = forfeit s side BrokeCause
at_send s job side (Line bytes) = s
at_send s job side TooLong = s
at_send s job side Ended = s
at_send s job side (Reading at) = s

-- the result of reading a line; one that is too long, an end and a fault are forfeits
abbrev pub at_read : MatchState → Task → Colour → Happening → MatchState
at_read s job side (Line bytes) = hear s job side bytes
at_read s job side TooLong = forfeit s side LongLine
at_read s job side Ended = forfeit s side EndedCause
at_read s job side Broke = forfeit s side BrokeCause
at_read s job side Sent = s
at_read s job side (Reading at) = s

-- the reading of the clock before a question
abbrev pub at_before : MatchState → Happening → MatchState
at_before s (Reading at) = record s { stage = Send Ask (position_now s).side; asked = at }
at_before s Sent = s
at_before s (Line bytes) = s
at_before s TooLong = s
at_before s Ended = s
at_before s Broke = s

-- the reading of the clock after a reply
abbrev pub at_after : MatchState → Happening → MatchState
at_after s (Reading at) =
    cond (is_late s at) (forfeit s (position_now s).side (Late s.asked at)) (judge s)
at_after s Sent = s
at_after s (Line bytes) = s
at_after s TooLong = s
at_after s Ended = s
at_after s Broke = s

-- the result of an event at a stage of the match
abbrev pub at_stage : MatchState → Stage → Happening → MatchState
at_stage s (Send job side) h = at_send s job side h
at_stage s (Read job side) h = at_read s job side h
at_stage s Before h = at_before s h
at_stage s After h = at_after s h
at_stage s Finished h = s

-- the match after an event
unfoldable pub next : MatchState → Happening → MatchState
next s h = at_stage s s.stage h

-- the event answers the act
abbrev pub answers : Act → Happening → Bool
answers (SendAct side) Sent = true
answers (SendAct side) Broke = true
answers (SendAct side) (Line bytes) = false
answers (SendAct side) TooLong = false
answers (SendAct side) Ended = false
answers (SendAct side) (Reading at) = false
answers (ReadAct side) (Line bytes) = true
answers (ReadAct side) TooLong = true
answers (ReadAct side) Ended = true
answers (ReadAct side) Broke = true
answers (ReadAct side) Sent = false
answers (ReadAct side) (Reading at) = false
answers Clock (Reading at) = true
answers Clock Sent = false
answers Clock (Line bytes) = false
answers Clock TooLong = false
answers Clock Ended = false
answers Clock Broke = false
answers Finish h = false

-- the match after all these events
abbrev pub after_all : MatchState → List Happening → MatchState
after_all s [] = s
after_all s (h ∷ hs) = after_all (next s h) hs

-- the match of a setup after all these events
abbrev pub match_after : FullSetup → List Happening → MatchState
match_after setup hs = after_all (start setup) hs
