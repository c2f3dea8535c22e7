-- What a match of two programs writes, plays, sends and counts, by the status with which it ends.
use Rattle.std.specs.Prelude.{◌≡◌, ◌⊎◌, ℕ, ◌+◌, ◌-◌, ◌*◌, ◌<◌, ◌≤◌, List, [], ◌∷◌, ◌++◌, length, take, Option, Some, None}
use Rattle.io_edge.specs.Outside.{ToldLists, Collects, Rose, behind, with_last}
use Rattle.io_edge.specs.Starts.{Engines}
use Rattle.hive_model.specs.declared.pieces.Colour.{Colour}
use Rattle.hive_model.specs.declared.pieces.Colour.TheVariants.{White, Black}
use Rattle.io_edge.specs.Lines.{lines}
use Rattle.command_runs.specs.World.{LeavesTimes, Times, World}
use Rattle.command_runs.specs.declared.status.Status.{Status}
use Rattle.command_runs.specs.declared.status.Status.TheVariants.{Done, Refused, Usage, ReadFault, WriteFault, SpawnFault, BadInput, Memory, InputFull}
use Rattle.match_core.specs.Setups.{FullSetup, setup_of}
use Rattle.match_core.specs.declared.stage.Stage.TheVariants.{After}
use Rattle.match_core.specs.declared.verdict.Cause.TheVariants.{Broke}
use Rattle.match_core.specs.declared.verdict.Verdict.{Verdict}
use Rattle.match_core.specs.declared.verdict.Verdict.TheVariants.{Forfeit}
use Rattle.match_core.specs.MatchState.{MatchState, Happening, start, match_after}
use Rattle.match_core.specs.Fairness.{sent}
use Rattle.match_core.specs.Plays.{joined, match_of}
use Rattle.match_core.specs.Feeds.{IsFront}
use Rattle.match_core.specs.Lates.{LatesAreLate}
use Rattle.match_runner.specs.Runs.{HasTimedHistory, IsJudged, IsLate, LateIn}
use Rattle.match_command.specs.Texts.{match_text}

-- The match of two programs

-- its state at the end, if the programs say this
abbrev pub end_of : FullSetup → List ℕ → List ℕ → MatchState
end_of setup white black = match_after setup (match_of setup (lines white) (lines black))

-- the bytes that it sends to a side
abbrev pub sent_in : FullSetup → List ℕ → List ℕ → Colour → List ℕ
sent_in setup white black side =
    joined (sent (start setup) (match_of setup (lines white) (lines black)) side)

-- What was played

-- a side broke
abbrev pub IsBroke : Option Verdict → Type 0
IsBroke verdict = (side : Colour) × (verdict ≡ Some (Forfeit side Broke))

-- If the bytes sent are observable after the run, it gained exactly two items: what white's program
-- got, and then what black's got.
abbrev pub Gains : ToldLists → ToldLists → (List ℕ → List ℕ → Type 0) → Type 0
Gains before None claim = Unit {0}
Gains None (Some after) claim = ⊥
Gains (Some before) (Some after) claim =
    (white : List ℕ)
    × (black : List ℕ)
    × (after ≡ before ++ white ∷ (black ∷ []))
    × claim white black

-- each program got everything that is sent to it in their match
pub record AreSent (setup : FullSetup) (white black to_white to_black : List ℕ) : Type 0 where
  pub white_got : to_white ≡ sent_in setup white black White
  pub black_got : to_black ≡ sent_in setup white black Black

-- each program got an initial part of what is sent to it in their match
pub record AreFronts (setup : FullSetup) (white black to_white to_black : List ℕ) : Type 0 where
  pub white_got : IsFront to_white (sent_in setup white black White)
  pub black_got : IsFront to_black (sent_in setup white black Black)

-- each program got everything that these events send to it
pub record AreSentBy (setup : FullSetup) (hs : List Happening) (to_white to_black : List ℕ)
    : Type 0 where
  pub white_got : to_white ≡ joined (sent (start setup) hs White)
  pub black_got : to_black ≡ joined (sent (start setup) hs Black)

-- Moves and bytes sent are those of the match of these programs up to a reply. The last line of
-- that reply was read, and next the clock is read.
pub record IsUpToReply
    (setup : FullSetup) (white black : List ℕ) (t : MatchState) (before after : Engines)
    : Type 0 where
  pub hs : List Happening
  pub front : IsFront hs (match_of setup (lines white) (lines black))
  pub replied : (match_after setup hs).stage ≡ After
  pub moves : t.moves ≡ (match_after setup hs).moves
  pub gains : Gains before.sent after.sent (AreSentBy setup hs)

-- moves, verdict and bytes sent are those of the match of these programs
pub record IsWhole
    (setup : FullSetup) (white black : List ℕ) (t : MatchState) (before after : Engines)
    : Type 0 where
  pub moves : t.moves ≡ (end_of setup white black).moves
  pub verdict : t.verdict ≡ (end_of setup white black).verdict
  pub gains : Gains before.sent after.sent (AreSent setup white black)

-- the verdict is this one, or an answer was late, or a side broke and a program's failure was
-- counted
abbrev pub IsVerdict : Option Verdict → Option Verdict → Engines → Engines → Type 0
IsVerdict full verdict before after =
    (verdict ≡ full)
    ⊎ (IsLate verdict
    ⊎ (IsBroke verdict × Rose before.engine_faults after.engine_faults))

-- Moves and bytes sent are initial parts of those of the match of these programs. The verdict is
-- its verdict, or an answer was late, or a side broke.
pub record IsPart
    (setup : FullSetup) (white black : List ℕ) (t : MatchState) (before after : Engines)
    : Type 0 where
  pub moves : IsFront t.moves (end_of setup white black).moves
  pub verdict : IsVerdict (end_of setup white black).verdict t.verdict before after
  pub gains : Gains before.sent after.sent (AreFronts setup white black)

-- What was played and sent if the two programs say this. It is always a part of their match. If no
-- program's failure was counted, it is the whole match, or the match up to a reply whose answer was
-- late.
pub record IsPlayedBy
    (setup : FullSetup) (white black : List ℕ) (t : MatchState) (before after : Engines)
    : Type 0 where
  pub part : IsPart setup white black t before after
  pub whole :
      ¬ Rose before.engine_faults after.engine_faults
      → ¬ IsLate t.verdict
      → IsWhole setup white black t before after
  pub late :
      ¬ Rose before.engine_faults after.engine_faults
      → IsLate t.verdict
      → IsUpToReply setup white black t before after

-- the first two of the programs to come were started, as white and as black, and played; no others
-- were started
pub record StartsTwoOf
    (all : List (List ℕ)) (setup : FullSetup) (t : MatchState) (before after : Engines)
    : Type 0 where
  pub white : List ℕ
  pub black : List ℕ
  pub others : List (List ℕ)
  pub first_two : all ≡ white ∷ (black ∷ others)
  pub left : after.to_come ≡ Some others
  pub played : IsPlayedBy setup white black t before after

-- A match was played to its verdict and has this state, whatever its programs say. Its events
-- answer the acts, with readings of the clock in their order. A side forfeits for a late answer
-- only at its turn. It was then asked with a time, and answered after that time and the margin.
pub record PlayedOut
    (setup : FullSetup) (t : MatchState) (from to : Times) (before after : Engines) : Type 0 where
  pub judged : IsJudged t
  pub same : t.setup ≡ setup
  pub readings : to.readings
      ≤ from.readings + (2 * (length t.moves - length setup.begin) + 2)
  pub late : LateIn t.verdict from.last to.last
  pub lates : LatesAreLate t
  pub history : HasTimedHistory setup t from.last to.last
  pub broke : IsBroke t.verdict → Rose before.engine_faults after.engine_faults

-- A match was played to its verdict and has this state. What its programs say determines what was
-- played.
pub record PlayedByPrograms
    (setup : FullSetup) (t : MatchState) (from to : Times) (before after : Engines) : Type 0 where
  pub out : PlayedOut setup t from to before after
  pub programs :
      (all : List (List ℕ))
      → before.to_come ≡ Some all
      → StartsTwoOf all setup t before after

-- The run

-- the two lines of a match that was played were written
pub record Tells (setup : FullSetup) (t : MatchState) (before after : World) : Type 0 where
  pub played : PlayedByPrograms setup t before.times after.times before.engines after.engines
  pub wrote : after.sides.written ≡ behind before.sides.written (match_text (setup_of setup) t)

-- the first n bytes of the two lines of a match that was played were written, and not all
pub record TellsPart (setup : FullSetup) (t : MatchState) (n : ℕ) (before after : World)
    : Type 0 where
  pub played : PlayedByPrograms setup t before.times after.times before.engines after.engines
  pub cut : n < length (match_text (setup_of setup) t)
  pub wrote :
      after.sides.written
      ≡ behind before.sides.written (take n (match_text (setup_of setup) t))

-- If the programs to come were observable, no program got a byte. None was closed, or one was to
-- which nothing was written.
abbrev pub SendsNothing : Engines → Engines → Type 0
SendsNothing before after =
    (coming : List (List ℕ))
    → before.to_come ≡ Some coming
    → (after.sent ≡ before.sent) ⊎ Collects before.sent after.sent (Some [])

-- no match was begun: nothing was written, no program got a byte, and the clock was not read
pub record NotBegun (before after : World) : Type 0 where
  pub written : after.sides.written ≡ before.sides.written
  pub unsent : SendsNothing before.engines after.engines
  pub untimed : LeavesTimes before after

-- What was written and played if a match of two programs ends with this status. If memory ran out,
-- nothing was written. It never ends with the other five statuses.
abbrev pub MatchRun : FullSetup → Status → World → World → Type 0
MatchRun setup Done before after = (t : MatchState) × Tells setup t before after
MatchRun setup WriteFault before after =
    (t : MatchState) × (n : ℕ) × TellsPart setup t n before after
MatchRun setup SpawnFault before after = NotBegun before after
MatchRun setup Memory before after = after.sides.written ≡ before.sides.written
MatchRun setup Refused before after = ⊥
MatchRun setup Usage before after = ⊥
MatchRun setup ReadFault before after = ⊥
MatchRun setup BadInput before after = ⊥
MatchRun setup InputFull before after = ⊥

-- What was started

-- white's program was started by its words, and then black's
abbrev pub BothStarted : List (List ℕ) → List (List ℕ) → Engines → Engines → Type 0
BothStarted white black before after =
    after.started ≡ with_last (with_last before.started white) black

-- no program was started, or only white's
abbrev pub FewerStarted : List (List ℕ) → Engines → Engines → Type 0
FewerStarted white before after =
    (after.started ≡ before.started) ⊎ (after.started ≡ with_last before.started white)

-- The programs that were started, each by its words, if a match of two programs ends with this
-- status. A match that was played had both. If memory ran out, both or fewer were started.
abbrev pub MatchStarts : Status → List (List ℕ) → List (List ℕ) → Engines → Engines → Type 0
MatchStarts Done white black before after = BothStarted white black before after
MatchStarts WriteFault white black before after = BothStarted white black before after
MatchStarts SpawnFault white black before after = FewerStarted white before after
MatchStarts Memory white black before after =
    BothStarted white black before after ⊎ FewerStarted white before after
MatchStarts Refused white black before after = ⊥
MatchStarts Usage white black before after = ⊥
MatchStarts ReadFault white black before after = ⊥
MatchStarts BadInput white black before after = ⊥
MatchStarts InputFull white black before after = ⊥

-- no program was started, and no start has failed
pub record StartsNone (before after : Engines) : Type 0 where
  pub starts : after.start_faults ≡ before.start_faults
  pub to_come : after.to_come ≡ before.to_come
  pub started : after.started ≡ before.started

-- No program that was started is left open. If programs are observable, as many were closed as were
-- taken from those to come.
abbrev pub NoneIsOpen : Engines → Engines → Type 0
NoneIsOpen before after =
    (coming later opened closed : List (List ℕ))
    → before.to_come ≡ Some coming
    → after.to_come ≡ Some later
    → before.sent ≡ Some opened
    → after.sent ≡ Some closed
    → length coming + length opened ≡ length later + length closed
