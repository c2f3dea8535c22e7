use Rattle.hive_model.specs.declared.pieces.Colour.TheVariants.{White, Black}
use Rattle.match_core.specs.Setups.{FullSetup}
use Rattle.match_core.specs.MatchState.{MatchState}
use Rattle.match_runner.specs.Wires.{Watch, Wire}
use Rattle.match_runner.specs.Runs.{IsLate, FinalRun, VerdictRun}
use Rattle.std.proofs.Common.{◌⊎◌, inl, inr, refl, None, Some}
use Rattle.match_core.specs.Keeps.{IsFullSetup}
use Rattle.match_core.specs.declared.verdict.Cause.TheVariants.{NotAMove, Illegal, ErrLine, Flood, LongLine, Ended as EndedCause, Broke as BrokeCause, Late}
use Rattle.match_core.specs.declared.verdict.Verdict.TheVariants.{Rules, Limit, Forfeit}
use Rattle.match_core.specs.declared.verdict.Verdict.{Verdict}
use Rattle.std.specs.declared.option.Option.{Option}
use Rattle.match_runner.proofs.Telling.{whole_told}
use Rattle.match_runner.proofs.Causes.{cut_verdict}

late_or_not : (v : Option Verdict) → IsLate v ⊎ (IsLate v → ⊥)
late_or_not None = inr (λ x. x)
late_or_not (Some (Rules state)) = inr (λ x. x)
late_or_not (Some Limit) = inr (λ x. x)
late_or_not (Some (Forfeit side (NotAMove line))) = inr (λ x. x)
late_or_not (Some (Forfeit side (Illegal line))) = inr (λ x. x)
late_or_not (Some (Forfeit side (ErrLine line))) = inr (λ x. x)
late_or_not (Some (Forfeit side (Flood count))) = inr (λ x. x)
late_or_not (Some (Forfeit side LongLine)) = inr (λ x. x)
late_or_not (Some (Forfeit side EndedCause)) = inr (λ x. x)
late_or_not (Some (Forfeit side BrokeCause)) = inr (λ x. x)
late_or_not (Some (Forfeit side (Late asked answered))) = inl tt

pub verdict_run : (setup : FullSetup) (t : MatchState) (w0 w b0 b : Wire) (r0 r : Watch) → IsFullSetup setup → FinalRun setup t w0 w b0 b r0 r → VerdictRun setup t w0 w b0 b
verdict_run setup t w0 w b0 b r0 r is final = λ white black e f.
    elim final.ran.ended [
      | inr cut ↦ elim cut [
        | inl c ↦ inr (inr (inl (cut_verdict White setup t _ _ _ _ _ _ c.0, c.1)))
        | inr c ↦ inr (inr (inr (cut_verdict Black setup t _ _ _ _ _ _ c.0, c.1)))
      ]
      | inl whole ↦ elim (late_or_not t.verdict) [
        | inl late ↦ inr (inl late)
        | inr not_late ↦ inl (whole_told setup t w0 w b0 b _ _ r0 r white black is e f not_late refl refl whole).verdict
      ]
    ]
