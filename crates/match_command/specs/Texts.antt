-- The two lines that report a match: its game, and how it ended.
use Rattle.std.specs.Prelude.{ℕ, List, [], ◌∷◌, ◌++◌, Option, Some, None, codes, decimal, map, nat_lt, if◌then◌else◌}
use Rattle.hive_model.specs.declared.pieces.Colour.{Colour}
use Rattle.hive_model.specs.declared.pieces.Colour.TheVariants.{White, Black}
use Rattle.hive_model.specs.Fields.{state_bytes}
use Rattle.hive_model.specs.Strings.{string_under}
use Rattle.match_core.specs.declared.setup.Setup.{Setup}
use Rattle.match_core.specs.declared.verdict.Cause.{Cause}
use Rattle.match_core.specs.declared.verdict.Cause.TheVariants.{NotAMove, Illegal, ErrLine, Flood, LongLine, Ended, Broke, Late}
use Rattle.match_core.specs.declared.verdict.Verdict.{Verdict}
use Rattle.match_core.specs.declared.verdict.Verdict.TheVariants.{Rules, Limit, Forfeit}
use Rattle.match_core.specs.MatchState.{MatchState}

-- a byte of an engine's line as it is written: each one outside 32 to 126 as a question mark (63)
abbrev pub shown : ℕ → ℕ
shown byte = if nat_lt byte 32 then 63 else (if nat_lt 126 byte then 63 else byte)

-- the line that was kept, with a space (32) before it; nothing if it is empty
abbrev pub kept_text : List ℕ → List ℕ
kept_text [] = []
kept_text (byte ∷ bytes) = 32 ∷ map shown (byte ∷ bytes)

-- the two readings of the clock that show that an answer was late
abbrev pub late_text : ℕ → ℕ → List ℕ
late_text asked answered = codes "late " ++ (decimal asked ++ 32 ∷ decimal answered)

-- why a side forfeits
abbrev pub cause_text : Cause → List ℕ
cause_text (NotAMove line) = codes "notamove" ++ kept_text line
cause_text (Illegal line) = codes "illegal" ++ kept_text line
cause_text (ErrLine line) = codes "err" ++ kept_text line
cause_text (Flood count) = codes "flood " ++ decimal count
cause_text LongLine = codes "longline"
cause_text Ended = codes "ended"
cause_text Broke = codes "broke"
cause_text (Late asked answered) = late_text asked answered

abbrev pub side_text : Colour → List ℕ
side_text White = codes "white"
side_text Black = codes "black"

-- how a match ended: by the rules in this state, at its limit of plies, or by a side's forfeit
abbrev pub verdict_text : Setup → Verdict → List ℕ
verdict_text setup (Rules state) = codes "result " ++ state_bytes state
verdict_text setup Limit = codes "limit " ++ decimal setup.limit
verdict_text setup (Forfeit side cause) =
    codes "forfeit " ++ (side_text side ++ 32 ∷ cause_text cause)

-- the same if there is a verdict; a match that is not over has none
abbrev pub ending_text : Setup → Option Verdict → List ℕ
ending_text setup None = []
ending_text setup (Some verdict) = verdict_text setup verdict

-- The game string of the moves, with the outcome under the setup's rule as its state, and the
-- verdict, each with its LF (10).
abbrev pub match_text : Setup → MatchState → List ℕ
match_text setup t =
    string_under setup.repetition setup.game_type t.moves ++ 10
    ∷ (ending_text setup t.verdict ++ 10 ∷ [])
