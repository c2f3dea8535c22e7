-- A law of the checks of texts.
use Rattle.std.specs.Prelude.{◌≡◌, ℕ, List, [], Some}
use Rattle.io_edge.specs.Lines.{lines}
use Rattle.command_runs.specs.Input.{Sides}
use Rattle.command_runs.specs.Served.{RunsAreDone}
use Rattle.certificate_verdicts.specs.declared.verdict.TextVerdict.TheVariants.{Accepted}
use Rattle.certificate_verdicts.specs.Runs.{Judgement, VerdictRun}

-- If no read or write failed, a check of an input that is accepted ends with `Done`, unless memory
-- ran out.
abbrev pub AcceptedAreDone : Type 0
AcceptedAreDone =
    (head : ℕ) → (verdict : Judgement)
    → RunsAreDone (VerdictRun head verdict) (λ input. verdict (lines input) ≡ Accepted)

-- if nothing was written before, what a run has written is accepted
abbrev pub WritesAccepted : Judgement → Sides → Sides → Type 0
WritesAccepted verdict before after =
    (input : List ℕ) → before.rest ≡ Some input → before.written ≡ Some []
    → (text : List ℕ) × (after.written ≡ Some text) × (verdict (lines text) ≡ Accepted)
