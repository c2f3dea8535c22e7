-- How a game ended, by the text of its verdict.
use Rattle.std.specs.Prelude.{◌≡◌, ℕ, ⊤, List, Option, Some, None, IsTrue, codes, nat_eq, if◌then◌else◌}
use Rattle.std.specs.List.{starts_with}
use Rattle.std.specs.Str.{bytes_eq}
use Rattle.hive_model.specs.declared.pieces.Colour.{Colour}
use Rattle.hive_model.specs.declared.pieces.Colour.TheVariants.{White, Black}
use Rattle.hive_model.specs.Legal.{is_over_state}
use Rattle.match_core.specs.declared.setup.Setup.{Setup}
use Rattle.match_core.specs.declared.verdict.Verdict.{Verdict}
use Rattle.match_core.specs.declared.verdict.Verdict.TheVariants.{Rules, Limit, Forfeit}
use Rattle.match_command.specs.Texts.{ending_text}
use Rattle.tournament_core.specs.declared.fixtures.GameEnd.{GameEnd}
use Rattle.tournament_games.specs.Texts.{absence_text, drawn, end_by, forfeited_by, won_by}

-- how a game ended, from the text of its verdict: the part of its line after the numbers. There is
-- no answer if the text says no end
abbrev pub end_in_text : List ℕ → Option GameEnd
end_in_text text =
    if bytes_eq text (codes "result WhiteWins") then Some (won_by White)
    else if bytes_eq text (codes "result BlackWins") then Some (won_by Black)
    else if bytes_eq text (codes "result Draw") then Some drawn
    else if starts_with nat_eq text (codes "limit ") then Some drawn
    else if starts_with nat_eq text (codes "forfeit white ") then Some (forfeited_by White)
    else if starts_with nat_eq text (codes "forfeit black ") then Some (forfeited_by Black)
    else None

-- a verdict with which a match can end: by the rules it ends in a state in which the game is over
abbrev pub IsEnding : Verdict → Type 0
IsEnding (Rules s) = IsTrue (is_over_state s)
IsEnding Limit = ⊤
IsEnding (Forfeit side cause) = ⊤

-- how a game ended is read back from the text of its verdict, even if a side's program could not be
-- started
pub record EndsAreReadBack : Type 0 where
  pub verdicts :
      (setup : Setup) (v : Verdict) → IsEnding v
      → end_in_text (ending_text setup (Some v)) ≡ Some (end_by v)
  pub absences : (side : Colour) → end_in_text (absence_text side) ≡ Some (forfeited_by side)
