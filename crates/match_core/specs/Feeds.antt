-- How events take the lines of a side.
use Rattle.std.specs.Prelude.{◌≡◌, ℕ, Bool, true, false, List, [], ◌∷◌, ◌++◌, Some}
use Rattle.std.specs.Option.{option_map}
use Rattle.hive_model.specs.declared.pieces.Colour.{Colour}
use Rattle.io_edge.specs.Lines.{Line as Mark, Text, ToldLines, NoneAhead, LongAhead}
use Rattle.match_core.specs.declared.stage.Stage.{Stage}
use Rattle.match_core.specs.declared.stage.Stage.TheVariants.{Send, Read, Before, After, Finished}
use Rattle.hive_model.specs.declared.pieces.Colour.TheVariants.{White, Black}
use Rattle.match_core.specs.Setups.{FullSetup}
use Rattle.match_core.specs.declared.stage.Act.TheVariants.{Finish}
use Rattle.match_core.specs.Keeps.{IsFullSetup}
use Rattle.match_core.specs.MatchState.{MatchState, Happening, Sent, Line, TooLong, Ended, Broke, Reading, next, is_late, after_all, start, match_after, act_at}
use Rattle.match_core.specs.Fairness.{is_side, sent, Answering}
use Rattle.match_core.specs.Plays.{match_of}

-- What a reader gives of the lines to come. (After the last two a match is over, and nothing is
-- said of what is left.)
abbrev pub Gave : Happening → ToldLines → ToldLines → Type 0
Gave (Line bytes) old new = old ≡ option_map (λ marks. Text bytes ∷ marks) new
Gave TooLong old new = LongAhead old
Gave Ended old new = NoneAhead old
Gave Sent old new = ⊥
Gave Broke old new = ⊥
Gave (Reading at) old new = ⊥

-- what is read if this side is read; of the other side nothing is read
abbrev pub GaveOr : Bool → Happening → ToldLines → ToldLines → Type 0
GaveOr true h old new = Gave h old new
GaveOr false h old new = new ≡ old

-- what an event takes of a side's lines to come
abbrev pub FeedsAt : Stage → Happening → Colour → ToldLines → ToldLines → Type 0
FeedsAt (Read job side) h to old new = GaveOr (is_side side to) h old new
FeedsAt (Send job side) h to old new = new ≡ old
FeedsAt Before h to old new = new ≡ old
FeedsAt After h to old new = new ≡ old
FeedsAt Finished h to old new = new ≡ old

-- all these events took exactly these lines of a side
abbrev pub Feeds : MatchState → List Happening → Colour → ToldLines → ToldLines → Type 0
Feeds s [] to old new = new ≡ old
Feeds s (h ∷ hs) to old new =
    (mid : ToldLines) × FeedsAt s.stage h to old mid × Feeds (next s h) hs to mid new

-- an event is no fault, and it makes no answer late
abbrev pub IsInTime : Stage → MatchState → Happening → Type 0
IsInTime After s (Reading at) = is_late s at ≡ false
IsInTime After s Sent = Unit {0}
IsInTime After s (Line bytes) = Unit {0}
IsInTime After s TooLong = Unit {0}
IsInTime After s Ended = Unit {0}
IsInTime After s Broke = Unit {0}
IsInTime (Send job side) s Broke = ⊥
IsInTime (Send job side) s Sent = Unit {0}
IsInTime (Send job side) s (Line bytes) = Unit {0}
IsInTime (Send job side) s TooLong = Unit {0}
IsInTime (Send job side) s Ended = Unit {0}
IsInTime (Send job side) s (Reading at) = Unit {0}
IsInTime (Read job side) s h = Unit {0}
IsInTime Before s h = Unit {0}
IsInTime Finished s h = Unit {0}

-- no event is a fault, and no answer is late
abbrev pub AreInTime : MatchState → List Happening → Type 0
AreInTime s [] = Unit {0}
AreInTime s (h ∷ hs) = IsInTime s.stage s h × AreInTime (next s h) hs

-- the same match with another moment at which the last question was asked
abbrev pub with_asked : MatchState → ℕ → MatchState
with_asked s asked = record s { asked = asked }

-- t and fs are s and hs, apart from readings of the clock
pub record AreSame (s : MatchState) (hs : List Happening) (t : MatchState)
    (fs : List Happening) : Type 0 where
  pub asked : ℕ
  pub match : after_all t fs ≡ with_asked (after_all s hs) asked
  pub white : sent t fs White ≡ sent s hs White
  pub black : sent t fs Black ≡ sent s hs Black

-- a whole match that took exactly these lines, with no fault and no late answer, is the match of
-- these lines
abbrev pub MatchesAreOfTheirLines : Type 0
MatchesAreOfTheirLines =
    (setup : FullSetup) (hs : List Happening) (white black : List Mark) (w b : ToldLines)
    → IsFullSetup setup → Answering (start setup) hs → AreInTime (start setup) hs
    → Feeds (start setup) hs White (Some white) w → Feeds (start setup) hs Black (Some black) b
    → act_at (match_after setup hs).stage ≡ Finish
    → AreSame (start setup) hs (start setup) (match_of setup white black)

-- the first list is an initial part of the second
abbrev pub IsFront : {X : Type 0} → List X → List X → Type 0
IsFront {X} front all = (more : List X) × (all ≡ front ++ more)

-- what happened is an initial part of the match of these lines, apart from readings of the clock
pub record HappensFirst (setup : FullSetup) (hs : List Happening) (white black : List Mark)
    : Type 0 where
  pub fs : List Happening
  pub front : IsFront fs (match_of setup white black)
  pub same : AreSame (start setup) hs (start setup) fs

-- The moves, the lines sent to each side and the events are initial parts of those of the match of
-- these lines.
pub record IsBegun (setup : FullSetup) (hs : List Happening) (white black : List Mark)
    : Type 0 where
  pub moves : IsFront (match_after setup hs).moves
      (match_after setup (match_of setup white black)).moves
  pub to_white : IsFront (sent (start setup) hs White)
      (sent (start setup) (match_of setup white black) White)
  pub to_black : IsFront (sent (start setup) hs Black)
      (sent (start setup) (match_of setup white black) Black)
  pub first : HappensFirst setup hs white black

-- a match that has taken exactly these lines so far, with no fault and no late answer, is an
-- initial part of the match of these lines
abbrev pub MatchesBegin : Type 0
MatchesBegin =
    (setup : FullSetup) (hs : List Happening) (white black : List Mark) (w b : ToldLines)
    → IsFullSetup setup → Answering (start setup) hs → AreInTime (start setup) hs
    → Feeds (start setup) hs White (Some white) w → Feeds (start setup) hs Black (Some black) b
    → IsBegun setup hs white black
