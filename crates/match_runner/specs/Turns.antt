-- One act of a match, done over two links and a clock.
use Rattle.std.specs.Prelude.{◌≡◌, ℕ, ◌+◌, ◌<◌, ◌≤◌, Bool, true, false, if◌then◌else◌, take, IsTrue}
use Rattle.io_edge.specs.Outside.{Told, HasCause, behind}
use Rattle.hive_model.specs.declared.pieces.Colour.{Colour}
use Rattle.hive_model.specs.declared.pieces.Colour.TheVariants.{White, Black}
use Rattle.line_feed.specs.Feed.{Reading as Reader, HoldsLittle, input_limit}
use Rattle.line_feed.specs.Ahead.{ahead_of}
use Rattle.match_core.specs.declared.stage.Stage.{Stage}
use Rattle.match_core.specs.declared.stage.Act.{Act}
use Rattle.match_core.specs.declared.stage.Act.TheVariants.{Send as SendAct, Read as ReadAct, Clock, Finish}
use Rattle.match_core.specs.Keeps.{line_at}
use Rattle.match_core.specs.MatchState.{MatchState, Happening, Sent, Line, TooLong, Ended, Broke, Reading, next, act_at, answers}
use Rattle.match_core.specs.Fairness.{sent_at}
use Rattle.match_core.specs.Plays.{joined, is_finished}
use Rattle.io_edge.specs.Lines.{ToldLines, greatest_line}
use Rattle.match_core.specs.Feeds.{Gave, FeedsAt}
use Rattle.match_runner.specs.declared.turns.Acted.{Acted}
use Rattle.match_runner.specs.declared.turns.Acted.TheVariants.{GoOn, Finished, ReadFault, WriteFault, Memory}
use Rattle.match_runner.specs.Wires.{Watch}

-- one side: the lines to come, and the bytes that were sent to it
pub record Side : Type 0 where
  pub ahead : ToldLines
  pub written : Told

-- a line is sent to this side
abbrev pub Tells : Colour → Acted → MatchState → MatchState → Told → Told → Type 0
Tells side GoOn s t before after =
    (t ≡ next s Sent) × (after ≡ behind before (line_at s s.stage))
Tells side (WriteFault at) s t before after =
    (at ≡ side)
    × (t ≡ next s Broke)
    × ((n : ℕ) × (after ≡ behind before (take n (line_at s s.stage))))
Tells side (ReadFault at) s t before after = ⊥
Tells side Finished s t before after = ⊥
Tells side Memory s t before after = Unit {0}

-- a line of this side is read; one that is too long is judged, and not passed over
abbrev pub Hears : Colour → Acted → MatchState → MatchState → ToldLines → ToldLines → Type 0
Hears side GoOn s t old new =
    (h : Happening) × (t ≡ next s h) × Gave h old new × (h ≡ TooLong → new ≡ old)
Hears side (ReadFault at) s t old new = (at ≡ side) × (t ≡ next s Broke) × (new ≡ old)
Hears side (WriteFault at) s t old new = ⊥
Hears side Finished s t old new = ⊥
Hears side Memory s t old new = Unit {0}

-- a match that goes on has taken at most this many bytes of lines
abbrev pub Room : Acted → ℕ → MatchState → ℕ → Type 0
Room GoOn before t after = is_finished t.stage ≡ false → after ≤ before + 65538
Room (ReadFault side) before t after = Unit {0}
Room (WriteFault side) before t after = Unit {0}
Room Finished before t after = Unit {0}
Room Memory before t after = Unit {0}

-- A reader from which this match may read a line. It holds little. Unless the match is over, it is
-- further from its limit than a line is long.
pub record MayRead (s : MatchState) (reader : Reader) : Type 0 where
  pub little : HoldsLittle reader
  pub room : is_finished s.stage ≡ false → reader.passed + greatest_line < input_limit

-- how an act leaves a reader: it holds little, and if the match goes on it is at most one line
-- further
pub record LeavesReader (turn : Acted) (old : Reader) (t : MatchState) (new : Reader)
    : Type 0 where
  pub little : HoldsLittle new
  pub room : Room turn old.passed t new.passed

-- The faults of this side that an act reports have their causes. Its count of failed reads rose if
-- the act says that a read of it failed; otherwise it is unchanged. The same holds for its count of
-- failed writes.
pub record HasCauses (turn : Acted) (side : Colour)
    (reads_before reads_now writes_before writes_now : ℕ) : Type 0 where
  pub reads : HasCause (turn ≡ ReadFault side) reads_before reads_now
  pub writes : HasCause (turn ≡ WriteFault side) writes_before writes_now

-- the clock is read
abbrev pub Looks : Acted → MatchState → MatchState → ℕ → ℕ → Type 0
Looks GoOn s t before last = (t ≡ next s (Reading last)) × (before ≤ last)
Looks (ReadFault side) s t before last = ⊥
Looks (WriteFault side) s t before last = ⊥
Looks Finished s t before last = ⊥
Looks Memory s t before last = Unit {0}

-- a reading comes from the clock, and is not before the clock's last one
abbrev pub KeepsAt : Happening → ℕ → ℕ → Type 0
KeepsAt (Reading at) before now = (before ≤ at) × (now ≡ at)
KeepsAt Sent before now = now ≡ before
KeepsAt (Line bytes) before now = now ≡ before
KeepsAt TooLong before now = now ≡ before
KeepsAt Ended before now = now ≡ before
KeepsAt Broke before now = now ≡ before

-- a side whose reader and link are these
abbrev pub side_of : Reader → Told → Told → Side
side_of reader rest written = record { ahead = ahead_of reader rest; written = written }

-- a read or a write failed
abbrev pub is_broke : Happening → Bool
is_broke Sent = false
is_broke (Line bytes) = false
is_broke TooLong = false
is_broke Ended = false
is_broke Broke = true
is_broke (Reading at) = false

-- the clock has to be read
abbrev pub is_clock : Act → Bool
is_clock (SendAct side) = false
is_clock (ReadAct side) = false
is_clock Clock = true
is_clock Finish = false

-- how often the clock is read at a stage
abbrev pub looks_at : Stage → ℕ
looks_at stage = if is_clock (act_at stage) then 1 else 0

-- How an act leaves the clock. It does not go back. It was read at most once, and only if the match
-- asks for its reading.
pub record LeavesClock (stage : Stage) (before after : Watch) : Type 0 where
  pub later : before.last ≤ after.last
  pub no_fewer : before.readings ≤ after.readings
  pub no_more : after.readings ≤ before.readings + looks_at stage

-- the effect of an event at a side
pub record OneSide (s : MatchState) (h : Happening) (to : Colour) (old new : Side) : Type 0 where
  pub feeds : FeedsAt s.stage h to old.ahead new.ahead
  pub stays : h ≡ TooLong → new.ahead ≡ old.ahead
  pub wrote : new.written ≡ behind old.written (joined (sent_at s s.stage h to))

-- a side has got an initial part of the line that had to be sent to it
abbrev pub CutSide : MatchState → Colour → Side → Side → Type 0
CutSide s to old new =
    (n : ℕ) × (new.written ≡ behind old.written (take n (joined (sent_at s s.stage Sent to))))

-- an event that is no fault, and its effect at both sides
pub record Goes (s : MatchState) (h : Happening) (t : MatchState) (w0 w b0 b : Side)
    (c0 c : ℕ) : Type 0 where
  pub time : KeepsAt h c0 c
  pub next_is : t ≡ next s h
  pub fits : IsTrue (answers (act_at s.stage) h)
  pub sound : is_broke h ≡ false
  pub white : OneSide s h White w0 w
  pub black : OneSide s h Black b0 b

-- a side breaks
pub record Breaks (s t : MatchState) (w0 w b0 b : Side) : Type 0 where
  pub next_is : t ≡ next s Broke
  pub fits : IsTrue (answers (act_at s.stage) Broke)
  pub white : CutSide s White w0 w
  pub black : CutSide s Black b0 b

-- the effect of an act on the match, both sides and the clock
abbrev pub Turns : Acted → MatchState → MatchState → Side → Side → Side → Side → ℕ → ℕ → Type 0
Turns GoOn s t w0 w b0 b c0 c = (h : Happening) × Goes s h t w0 w b0 b c0 c
Turns (ReadFault side) s t w0 w b0 b c0 c =
    (act_at s.stage ≡ ReadAct side) × Breaks s t w0 w b0 b × (c ≡ c0)
Turns (WriteFault side) s t w0 w b0 b c0 c =
    (act_at s.stage ≡ SendAct side) × Breaks s t w0 w b0 b × (c ≡ c0)
Turns Finished s t w0 w b0 b c0 c =
    (t ≡ s) × (act_at s.stage ≡ Finish) × (w ≡ w0) × (b ≡ b0) × (c ≡ c0)
Turns Memory s t w0 w b0 b c0 c = Unit {0}
