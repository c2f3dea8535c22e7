-- What a game that was read keeps, and what is written for it.
use Rattle.std.proofs.Common.{◌≡◌, ◌≤◌, ℕ, ap, sym, ◌∙◌, Some}
use Rattle.hive_model.specs.declared.places.Move.{Move}
use Rattle.hive_model.specs.Histories.{History, position}
use Rattle.hive_model.specs.Minimax.{best, value}
use Rattle.game_text.specs.declared.parsed.Parsed.{Parsed}
use Rattle.search_laws.proofs.BestLaws.{best-exists}
use Rattle.strategy_make.specs.Making.{certificate, certificate_of}
use Rattle.command_runs.specs.Asking.{IsReplayOf, IsUnderWay}
use Rattle.command_runs.specs.Input.{Sides, WhereTold}
use Rattle.command_runs.specs.OneGame.{IsAsked}
use Rattle.command_runs.specs.Answered.{WritesAnswer}
use Rattle.command_runs.specs.declared.status.Status.{Status}
use Rattle.command_runs.proofs.GameRunLemmas.{end_is, game_run}
use Rattle.certificate_commands.specs.Certifying.{CertifyRun, certificates_of}

-- the input was one game, and its certificate was written
pub certified : (depth : ℕ) (status : Status) (before after : Sides) (c : History) → 1 ≤ depth → IsUnderWay c → WhereTold before.rest (λ input. (game : Parsed) × IsAsked input after.rest game × IsReplayOf c game)
    → WritesAnswer (certificate_of c depth (best (position c) depth)) status before.written after.written → CertifyRun depth status before after
certified depth status before after c some has given told =
    let found = best-exists (position c) depth (record { deep = some; open_ = has.open_ }) in
    game_run (certificates_of depth) status before after c (certificate_of c depth (best (position c) depth)) given (λ game end. answer game end found.0 found.1) told
  where
    answer : (game : Parsed) → IsReplayOf c game → (m : Move) → best (position c) depth ≡ Some m → certificates_of depth game (certificate_of c depth (best (position c) depth))
    answer game end m is = (
      m,
      record {
        is_best = sym (ap (λ p. best p depth) (end_is c game end)) ∙ is;
        is_text = ap (certificate_of c depth) is ∙ (λ i. certificate (end.kind i) (end.made i) depth m (value (end_is c game end i) depth));
      },
    )
