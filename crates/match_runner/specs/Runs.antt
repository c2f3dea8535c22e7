-- The effects of a whole run.
use Rattle.std.specs.Prelude.{◌≡◌, ◌⊎◌, ℕ, ◌+◌, ◌-◌, ◌*◌, ◌≤◌, true, false, List, [], ◌∷◌, length, Option, Some, None}
use Rattle.io_edge.specs.Outside.{Told, behind}
use Rattle.hive_model.specs.declared.pieces.Colour.{Colour}
use Rattle.hive_model.specs.declared.pieces.Colour.TheVariants.{White, Black}
use Rattle.line_feed.specs.Feed.{Reading as Reader, HoldsLittle, fresh}
use Rattle.match_core.specs.Setups.{FullSetup}
use Rattle.match_core.specs.declared.stage.Stage.TheVariants.{After}
use Rattle.match_core.specs.declared.stage.Act.TheVariants.{Send as SendAct, Read as ReadAct, Finish}
use Rattle.io_edge.specs.Lines.{Line as Mark, ToldLines, lines}
use Rattle.match_core.specs.declared.verdict.Cause.TheVariants.{NotAMove, Illegal, ErrLine, Flood, LongLine, Ended as EndedCause, Broke as BrokeCause, Late}
use Rattle.match_core.specs.declared.verdict.Verdict.{Verdict}
use Rattle.match_core.specs.declared.verdict.Verdict.TheVariants.{Rules, Limit, Forfeit}
use Rattle.match_core.specs.MatchState.{MatchState, Happening, TooLong, start, match_after, next, act_at}
use Rattle.match_core.specs.Fairness.{Answering, sent}
use Rattle.match_core.specs.Plays.{joined, IsBounded, match_of, has_verdict}
use Rattle.match_core.specs.Feeds.{FeedsAt, IsFront}
use Rattle.match_core.specs.Lates.{LatesAreLate}
use Rattle.match_runner.specs.Wires.{HasFailed, Watch, Wire}
use Rattle.match_runner.specs.Turns.{Side, Breaks, KeepsAt, is_broke, looks_at, side_of}

-- no event is a fault
abbrev pub AreSound : List Happening → Type 0
AreSound [] = Unit {0}
AreSound (h ∷ hs) = (is_broke h ≡ false) × AreSound hs

-- how often the clock was read
abbrev pub looks : MatchState → List Happening → ℕ
looks s [] = 0
looks s (h ∷ hs) = looks_at s.stage + looks (next s h) hs

-- The readings among the events are those of a clock. None is before the one preceding it, and the
-- first is not before the clock's last reading at the start. The latest of them is the clock's last
-- reading now.
abbrev pub KeepTime : ℕ → List Happening → ℕ → Type 0
KeepTime before [] now = now ≡ before
KeepTime before (h ∷ hs) now = (mid : ℕ) × KeepsAt h before mid × KeepTime mid hs now

-- All these events took exactly these lines of a side. A line that is too long was judged and not
-- passed over: it is still the first of the lines to come.
abbrev pub JudgesAtOnce : MatchState → List Happening → Colour → ToldLines → ToldLines → Type 0
JudgesAtOnce s [] to old new = new ≡ old
JudgesAtOnce s (h ∷ hs) to old new =
    (mid : ToldLines) × FeedsAt s.stage h to old mid × (h ≡ TooLong → mid ≡ old)
    × JudgesAtOnce (next s h) hs to mid new

-- the effects of the events at a side
pub record Served (s : MatchState) (hs : List Happening) (to : Colour) (old new : Side)
    : Type 0 where
  pub feeds : JudgesAtOnce s hs to old.ahead new.ahead
  pub wrote : new.written ≡ behind old.written (joined (sent s hs to))

-- these events brought the match to this state
pub record Runs (setup : FullSetup) (s : MatchState) (w0 w b0 b : Side) (r0 r : Watch)
    (hs : List Happening) : Type 0 where
  pub here : s ≡ match_after setup hs
  pub fits : Answering (start setup) hs
  pub sound : AreSound hs
  pub white : Served (start setup) hs White w0 w
  pub black : Served (start setup) hs Black b0 b
  pub readings : r.readings ≤ r0.readings + looks (start setup) hs
  pub time : KeepTime r0.last hs r.last
  pub bounded : IsBounded s

-- some events brought the match to this state
abbrev pub Run : FullSetup → MatchState → Side → Side → Side → Side → Watch → Watch → Type 0
Run setup s w0 w b0 b r0 r = (hs : List Happening) × Runs setup s w0 w b0 b r0 r hs

-- the match has ended by itself
abbrev pub Whole : FullSetup → MatchState → Side → Side → Side → Side → Watch → Watch → Type 0
Whole setup t w0 w b0 b r0 r = Run setup t w0 w b0 b r0 r × (act_at t.stage ≡ Finish)

-- a fault of this side ended it
abbrev pub Cut : Colour → FullSetup → MatchState → Side → Side → Side → Side → Watch → Watch
    → Type 0
Cut side setup t w0 w b0 b r0 r =
    (s : MatchState) × (w1 : Side) × (b1 : Side) × Run setup s w0 w1 b0 b1 r0 r
    × Breaks s t w1 w b1 b
    × ((act_at s.stage ≡ SendAct side) ⊎ (act_at s.stage ≡ ReadAct side))

-- if a side breaks, one of its counts rose (or is at its greatest value)
pub record Ran (setup : FullSetup) (t : MatchState) (w0 w b0 b : Side) (r0 r : Watch)
    (white_rose black_rose : Type 0) : Type 0 where
  pub ended : (Whole setup t w0 w b0 b r0 r)
      ⊎ ((Cut White setup t w0 w b0 b r0 r × white_rose)
      ⊎ (Cut Black setup t w0 w b0 b r0 r × black_rose))

-- The run of a match over two links, with their state before and after it. The reader of each side
-- holds the front of one line and at most one piece. The lines to come are in what it holds and in
-- what the link has left.
pub record FinalRun
    (setup : FullSetup) (t : MatchState) (w0 w b0 b : Wire) (r0 r : Watch) : Type 0 where
  pub white_reader : Reader
  pub black_reader : Reader
  pub white_little : HoldsLittle white_reader
  pub black_little : HoldsLittle black_reader
  pub ran :
      Ran setup t (side_of fresh w0.rest w0.written) (side_of white_reader w.rest w.written)
      (side_of fresh b0.rest b0.written) (side_of black_reader b.rest b.written) r0 r
      (HasFailed w0 w) (HasFailed b0 b)

-- a side forfeits for a late answer
abbrev pub IsLate : Option Verdict → Type 0
IsLate None = ⊥
IsLate (Some (Rules state)) = ⊥
IsLate (Some Limit) = ⊥
IsLate (Some (Forfeit side (NotAMove line))) = ⊥
IsLate (Some (Forfeit side (Illegal line))) = ⊥
IsLate (Some (Forfeit side (ErrLine line))) = ⊥
IsLate (Some (Forfeit side (Flood count))) = ⊥
IsLate (Some (Forfeit side LongLine)) = ⊥
IsLate (Some (Forfeit side EndedCause)) = ⊥
IsLate (Some (Forfeit side BrokeCause)) = ⊥
IsLate (Some (Forfeit side (Late asked answered))) = Unit {0}

-- moves, verdict and bytes sent are those of the match of these lines
pub record IsMatch
    (setup : FullSetup) (white black : List Mark) (t : MatchState) (w0 w b0 b : Told) : Type 0 where
  pub moves : t.moves ≡ (match_after setup (match_of setup white black)).moves
  pub verdict : t.verdict ≡ (match_after setup (match_of setup white black)).verdict
  pub to_white : w ≡ behind w0 (joined (sent (start setup) (match_of setup white black) White))
  pub to_black : b ≡ behind b0 (joined (sent (start setup) (match_of setup white black) Black))

-- If both links are observable, no call failed and no answer was late, then moves, verdict and
-- bytes sent are those of the match of their lines.
abbrev pub ToldRun : FullSetup → MatchState → Wire → Wire → Wire → Wire → Type 0
ToldRun setup t w0 w b0 b =
    (white black : List ℕ)
    → w0.rest ≡ Some white
    → b0.rest ≡ Some black
    → ¬ HasFailed w0 w
    → ¬ HasFailed b0 b
    → ¬ IsLate t.verdict
    → IsMatch setup (lines white) (lines black) t w0.written w.written b0.written b.written

-- a side has broken only if a call of its link failed
pub record BrokeOnly (t : MatchState) (w0 w b0 b : Wire) : Type 0 where
  pub white : t.verdict ≡ Some (Forfeit White BrokeCause) → HasFailed w0 w
  pub black : t.verdict ≡ Some (Forfeit Black BrokeCause) → HasFailed b0 b

-- the match has a verdict
abbrev pub IsJudged : MatchState → Type 0
IsJudged t = has_verdict t.verdict ≡ true

-- If an answer is late, it was asked for no earlier than the clock's last reading before the run.
-- It came no earlier than it was asked for, and the clock has not been read since.
abbrev pub LateIn : Option Verdict → ℕ → ℕ → Type 0
LateIn None before now = Unit {0}
LateIn (Some (Rules state)) before now = Unit {0}
LateIn (Some Limit) before now = Unit {0}
LateIn (Some (Forfeit side (NotAMove line))) before now = Unit {0}
LateIn (Some (Forfeit side (Illegal line))) before now = Unit {0}
LateIn (Some (Forfeit side (ErrLine line))) before now = Unit {0}
LateIn (Some (Forfeit side (Flood count))) before now = Unit {0}
LateIn (Some (Forfeit side LongLine)) before now = Unit {0}
LateIn (Some (Forfeit side EndedCause)) before now = Unit {0}
LateIn (Some (Forfeit side BrokeCause)) before now = Unit {0}
LateIn (Some (Forfeit side (Late asked answered))) before now =
    (before ≤ asked) × (asked ≤ answered) × (answered ≡ now)

-- the bytes sent to a side are an initial part of these
abbrev pub IsFrontSent : Told → Told → List ℕ → Type 0
IsFrontSent old new all = (bytes : List ℕ) × (new ≡ behind old bytes) × IsFront bytes all

-- the moves, and the bytes sent to each side, are initial parts of those of the match of these
-- lines
pub record IsFrontOf (setup : FullSetup) (white black : List Mark) (t : MatchState)
    (w0 w b0 b : Told) : Type 0 where
  pub moves : IsFront t.moves (match_after setup (match_of setup white black)).moves
  pub to_white : IsFrontSent w0 w (joined (sent (start setup) (match_of setup white black) White))
  pub to_black : IsFrontSent b0 b (joined (sent (start setup) (match_of setup white black) Black))

-- If both links are observable, moves and bytes sent are initial parts of those of the match of
-- their lines. This holds whatever failed and however late an answer was.
abbrev pub FrontRun : FullSetup → MatchState → Wire → Wire → Wire → Wire → Type 0
FrontRun setup t w0 w b0 b =
    (white black : List ℕ)
    → w0.rest ≡ Some white
    → b0.rest ≡ Some black
    → IsFrontOf setup (lines white) (lines black) t w0.written w.written b0.written b.written

-- a side broke, and a call of its link failed
abbrev pub HasBroken : Option Verdict → Colour → Wire → Wire → Type 0
HasBroken verdict side before after =
    (verdict ≡ Some (Forfeit side BrokeCause)) × HasFailed before after

-- the verdict is this one, or an answer was late, or a side broke
abbrev pub IsVerdict : Option Verdict → Option Verdict → Wire → Wire → Wire → Wire → Type 0
IsVerdict full verdict w0 w b0 b =
    (verdict ≡ full)
    ⊎ (IsLate verdict ⊎ (HasBroken verdict White w0 w ⊎ HasBroken verdict Black b0 b))

-- If both links are observable, the verdict is that of the match of their lines, or an answer was
-- late, or a side broke.
abbrev pub VerdictRun : FullSetup → MatchState → Wire → Wire → Wire → Wire → Type 0
VerdictRun setup t w0 w b0 b =
    (white black : List ℕ)
    → w0.rest ≡ Some white
    → b0.rest ≡ Some black
    → IsVerdict (match_after setup (match_of setup (lines white) (lines black))).verdict t.verdict
    w0 w b0 b

-- the events of a match of this setup that led to this state: each answers the next act
pub record IsHistory (setup : FullSetup) (t : MatchState) (hs : List Happening) : Type 0 where
  pub here : t ≡ match_after setup hs
  pub fits : Answering (start setup) hs

-- some events lead a match of this setup to this state
abbrev pub HasHistory : FullSetup → MatchState → Type 0
HasHistory setup t = (hs : List Happening) × IsHistory setup t hs

-- the same, for the readings of a clock whose last ones before and after the match are these
abbrev pub HasTimedHistory : FullSetup → MatchState → ℕ → ℕ → Type 0
HasTimedHistory setup t before now =
    (hs : List Happening) × IsHistory setup t hs × KeepTime before hs now

-- The moves, and the bytes sent to each side, are those of the match of these lines up to a reply.
-- The last line of that reply was read, and next the clock is read.
pub record IsUpToReply (setup : FullSetup) (white black : List Mark) (t : MatchState)
    (w0 w b0 b : Told) : Type 0 where
  pub hs : List Happening
  pub front : IsFront hs (match_of setup white black)
  pub replied : (match_after setup hs).stage ≡ After
  pub moves : t.moves ≡ (match_after setup hs).moves
  pub to_white : w ≡ behind w0 (joined (sent (start setup) hs White))
  pub to_black : b ≡ behind b0 (joined (sent (start setup) hs Black))

-- If both links are observable, no call failed and an answer was late, then moves and bytes sent
-- are those of their match up to a reply.
abbrev pub LateRun : FullSetup → MatchState → Wire → Wire → Wire → Wire → Type 0
LateRun setup t w0 w b0 b =
    (white black : List ℕ)
    → w0.rest ≡ Some white
    → b0.rest ≡ Some black
    → ¬ HasFailed w0 w
    → ¬ HasFailed b0 b
    → IsLate t.verdict
    → IsUpToReply setup (lines white) (lines black) t w0.written w.written b0.written b.written

-- A match that was run over two links. It is of this setup and has a verdict; the other fields say
-- how the links determine it.
pub record RanLinks (setup : FullSetup) (t : MatchState) (w0 w b0 b : Wire) : Type 0 where
  pub same : t.setup ≡ setup
  pub judged : IsJudged t
  pub broke : BrokeOnly t w0 w b0 b
  pub front : FrontRun setup t w0 w b0 b
  pub verdict : VerdictRun setup t w0 w b0 b
  pub told : ToldRun setup t w0 w b0 b
  pub history : HasHistory setup t
  pub lates : LatesAreLate t
  pub late : LateRun setup t w0 w b0 b

-- A match that was run over two links and a clock. The clock is read at most twice for each move
-- made in it, and twice more.
pub record RanOver
    (setup : FullSetup) (t : MatchState) (w0 w b0 b : Wire) (r0 r : Watch) : Type 0 where
  pub events : FinalRun setup t w0 w b0 b r0 r
  pub links : RanLinks setup t w0 w b0 b
  pub late : LateIn t.verdict r0.last r.last
  pub history : HasTimedHistory setup t r0.last r.last
  pub readings : r.readings
      ≤ r0.readings + (2 * (length t.moves - length setup.begin) + 2)
