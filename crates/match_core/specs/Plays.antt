-- The match of two sides whose lines are known.
use Rattle.std.specs.Prelude.{◌≡◌, ◌↔◌, ℕ, zero, suc, ◌+◌, ◌-◌, ◌*◌, ◌<◌, ◌≤◌, Bool, true, false, cond, List, [], ◌∷◌, ◌++◌, length, Option, Some, None, IsTrue}
use Rattle.hive_model.specs.declared.pieces.Colour.TheVariants.{White, Black}
use Rattle.io_edge.specs.Lines.{Line as Mark, Text, TooLong as LongMark}
use Rattle.match_core.specs.Setups.{FullSetup}
use Rattle.match_core.specs.declared.stage.Task.TheVariants.{Greet, Begin, Ask, Tell}
use Rattle.match_core.specs.declared.stage.Stage.{Stage}
use Rattle.match_core.specs.declared.stage.Stage.TheVariants.{Send, Read, Before, After, Finished}
use Rattle.match_core.specs.declared.verdict.Verdict.{Verdict}
use Rattle.match_core.specs.declared.stage.Act.TheVariants.{Finish}
use Rattle.match_core.specs.Keeps.{HasNext, IsFullSetup}
use Rattle.match_core.specs.MatchState.{MatchState, Happening, Sent, Line, TooLong, Ended, Reading, start, match_after, next, act_at, answers}
use Rattle.match_core.specs.Fairness.{Answering}

-- a match that is over has a verdict
abbrev pub has_verdict : Option Verdict → Bool
has_verdict None = false
has_verdict (Some verdict) = true

-- the match is over
abbrev pub is_finished : Stage → Bool
is_finished (Send job side) = false
is_finished (Read job side) = false
is_finished Before = false
is_finished After = false
is_finished Finished = true

-- at most this number of events is left, if d more moves may be made and c lines of the reply were
-- read
abbrev pub left_at : Stage → ℕ → ℕ → ℕ
left_at (Read Greet White) d c = 8008 * d + 9009 - c
left_at (Read Greet Black) d c = 8008 * d + 8008 - c
left_at (Send Greet side) d c = 8008 * d + 10010
left_at (Send Begin White) d c = 8008 * d + 7007
left_at (Read Begin White) d c = 8008 * d + 6006 - c
left_at (Send Begin Black) d c = 8008 * d + 5005
left_at (Read Begin Black) d c = 8008 * d + 4004 - c
left_at Before d c = 8008 * d + 3003
left_at (Send Ask side) d c = 8008 * d + 2002
left_at (Read Ask side) d c = 8008 * d + 1001 - c
left_at After d c = 8008 * d
left_at (Send (Tell m) White) d c = 8008 * d + 7007
left_at (Read (Tell m) White) d c = 8008 * d + 6006 - c
left_at (Send (Tell m) Black) d c = 8008 * d + 5005
left_at (Read (Tell m) Black) d c = 8008 * d + 4004 - c
left_at Finished d c = 0

-- at most this number of events is left
unfoldable pub left : MatchState → ℕ
left s = left_at s.stage (s.setup.limit - length s.moves) s.count

-- the side's next line or mark, or the end if there is none
abbrev pub given : List Mark → Happening
given [] = Ended
given (Text bytes ∷ marks) = Line bytes
given (LongMark ∷ marks) = TooLong

-- the lines after the next
abbrev pub others : List Mark → List Mark
others [] = []
others (mark ∷ marks) = marks

-- what answers the act, if the sides have these lines and every question is answered in time
abbrev pub reply_to : Stage → ℕ → List Mark → List Mark → Happening
reply_to (Send job side) asked white black = Sent
reply_to (Read job White) asked white black = given white
reply_to (Read job Black) asked white black = given black
reply_to Before asked white black = Reading 0
reply_to After asked white black = Reading asked
reply_to Finished asked white black = Sent

-- the lines that are left of a side
abbrev pub left_of_white : Stage → List Mark → List Mark
left_of_white (Send job side) white = white
left_of_white (Read job White) white = others white
left_of_white (Read job Black) white = white
left_of_white Before white = white
left_of_white After white = white
left_of_white Finished white = white

-- the same for black
abbrev pub left_of_black : Stage → List Mark → List Mark
left_of_black (Send job side) black = black
left_of_black (Read job White) black = black
left_of_black (Read job Black) black = others black
left_of_black Before black = black
left_of_black After black = black
left_of_black Finished black = black

-- what happens from here on, in at most n events, if the sides have these lines
unfoldable pub happens : ℕ → MatchState → List Mark → List Mark → List Happening
happens zero s white black = []
happens (suc n) s white black =
    cond (is_finished s.stage) []
    (reply_to s.stage s.asked white black
    ∷ happens n (next s (reply_to s.stage s.asked white black)) (left_of_white s.stage white)
    (left_of_black s.stage black))

-- all events of the match of two sides with these lines
abbrev pub match_of : FullSetup → List Mark → List Mark → List Happening
match_of setup white black = happens (left (start setup)) (start setup) white black

-- the bytes of lines that were sent
abbrev pub joined : List (List ℕ) → List ℕ
joined [] = []
joined (line ∷ lines) = line ++ joined lines

-- whether a match that begins with `given` moves may be at this stage after `plies` moves
abbrev pub IsPliesAt : Stage → ℕ → ℕ → ℕ → Type 0
IsPliesAt (Send job side) given plies limit = HasNext job given plies limit
IsPliesAt (Read job side) given plies limit = HasNext job given plies limit
IsPliesAt Before given plies limit = plies < limit
IsPliesAt After given plies limit = plies < limit
IsPliesAt Finished given plies limit = Unit {0}

-- a match at its stage: its moves and lines are within the limits, and it is over if and only if it
-- has a verdict
pub record IsBounded (s : MatchState) : Type 0 where
  pub plies : IsPliesAt s.stage (length s.setup.begin) (length s.moves) s.setup.limit
  pub count : s.count ≤ 1000
  pub judged : is_finished s.stage ≡ has_verdict s.verdict

-- an event that answers the act brings the match nearer to its end
abbrev pub MatchesNearTheirEnd : Type 0
MatchesNearTheirEnd =
    (s : MatchState) (h : Happening) → IsBounded s → IsTrue (answers (act_at s.stage) h)
    → IsBounded (next s h) × (left (next s h) < left s)

-- The match of two sides runs to its end. Its events answer the acts, and are not cut before there
-- is a verdict.
abbrev pub MatchesEnd : Type 0
MatchesEnd = (setup : FullSetup) (white black : List Mark) → IsFullSetup setup
    → Answering (start setup) (match_of setup white black)
    × (act_at (match_after setup (match_of setup white black)).stage ≡ Finish)

-- a match is over if and only if it has a verdict
abbrev pub MatchesAreJudged : Type 0
MatchesAreJudged =
    (setup : FullSetup) (hs : List Happening) → IsFullSetup setup → Answering (start setup) hs
    → (act_at (match_after setup hs).stage ≡ Finish)
    ↔ (has_verdict (match_after setup hs).verdict ≡ true)
