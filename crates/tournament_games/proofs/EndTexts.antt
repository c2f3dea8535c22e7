-- How games ended is read back from the texts of their verdicts.
use Rattle.std.proofs.Common.{◌≡◌, Some, refl}
use Rattle.hive_model.specs.declared.pieces.Colour.{Colour}
use Rattle.hive_model.specs.declared.pieces.Colour.TheVariants.{White, Black}
use Rattle.hive_model.specs.declared.places.State.TheVariants.{NotStarted, InProgress, Draw, WhiteWins, BlackWins}
use Rattle.match_core.specs.declared.setup.Setup.{Setup}
use Rattle.match_core.specs.declared.verdict.Verdict.{Verdict}
use Rattle.match_core.specs.declared.verdict.Verdict.TheVariants.{Rules, Limit, Forfeit}
use Rattle.match_command.specs.Texts.{ending_text}
use Rattle.tournament_games.specs.Texts.{absence_text, end_by, forfeited_by}
use Rattle.tournament_games.specs.Readback.{EndsAreReadBack, IsEnding, end_in_text}

verdict-back : (setup : Setup) (v : Verdict) → IsEnding v → end_in_text (ending_text setup (Some v)) ≡ Some (end_by v)
verdict-back setup (Rules NotStarted) over = cc
verdict-back setup (Rules InProgress) over = cc
verdict-back setup (Rules Draw) over = refl
verdict-back setup (Rules WhiteWins) over = refl
verdict-back setup (Rules BlackWins) over = refl
verdict-back setup Limit over = refl
verdict-back setup (Forfeit White cause) over = refl
verdict-back setup (Forfeit Black cause) over = refl

absence-back : (side : Colour) → end_in_text (absence_text side) ≡ Some (forfeited_by side)
absence-back White = refl
absence-back Black = refl

pub ends-are-read-back : EndsAreReadBack
ends-are-read-back = record { verdicts = verdict-back; absences = absence-back }
