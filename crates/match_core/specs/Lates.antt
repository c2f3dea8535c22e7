-- When an answer was late.
use Rattle.std.specs.Prelude.{◌≡◌, ℕ, ◌+◌, ◌<◌, List, Some}
use Rattle.hive_model.specs.declared.pieces.Colour.{Colour}
use Rattle.match_core.specs.Setups.{FullSetup}
use Rattle.match_core.specs.declared.setup.Level.TheVariants.{Time}
use Rattle.match_core.specs.declared.verdict.Cause.TheVariants.{Late}
use Rattle.match_core.specs.declared.verdict.Verdict.TheVariants.{Forfeit}
use Rattle.match_core.specs.MatchState.{MatchState, Happening, start, match_after, position_now}
use Rattle.match_core.specs.Fairness.{Answering}

-- A side's answer was late by these two readings of the clock. It was this side's turn, and sides
-- are asked with a time. It answered after the time and the margin had passed since it was asked.
pub record IsLateBy (t : MatchState) (side : Colour) (asked answered : ℕ) : Type 0 where
  pub turn : side ≡ (position_now t).side
  pub budget : ℕ
  pub margin : ℕ
  pub timed : t.setup.level ≡ Time budget margin
  pub over : asked + budget + margin < answered

-- if a side forfeits for a late answer, its answer was late by the stated readings
abbrev pub LatesAreLate : MatchState → Type 0
LatesAreLate t =
    (side : Colour) (asked answered : ℕ)
    → t.verdict ≡ Some (Forfeit side (Late asked answered))
    → IsLateBy t side asked answered

-- this holds in every match
abbrev pub MatchesTellLates : Type 0
MatchesTellLates =
    (setup : FullSetup) (hs : List Happening) → Answering (start setup) hs
    → LatesAreLate (match_after setup hs)
