-- If the streams and the starter of programs served an audit, it reports what it found.
use Rattle.std.proofs.Common.{◌≡◌, ℕ, ◌<◌, ◌≤◌, List, ◌∷◌, length, inl, inr, refl, sym, ◌∙◌, ap, arith}
use Rattle.io_edge.specs.Outside.{Rose}
use Rattle.io_edge.specs.Lines.{lines}
use Rattle.line_feed.specs.Feed.{input_limit}
use Rattle.command_runs.specs.World.{World}
use Rattle.command_runs.specs.declared.status.Status.{Status}
use Rattle.command_runs.specs.declared.status.Status.TheVariants.{Done, Refused, Usage, ReadFault, WriteFault, SpawnFault, BadInput, Memory, InputFull}
use Rattle.command_runs.proofs.ServedLemmas.{no_failure}
use Rattle.audit_core.specs.declared.plan.AuditPlan.{AuditPlan}
use Rattle.audit_core.specs.AuditState.{AuditState}
use Rattle.audit_core.specs.Audits.{audit_of}
use Rattle.audit_core.proofs.Found.{audits_find_faults}
use Rattle.audit_command.specs.Audit.{AuditOver}
use Rattle.audit_command.specs.Laws.{AuditsAreDone, AuditsAreRight, IsServed}

-- a program that stays below the limit of what is read is not one that reaches it
too_long : (bytes other : List ℕ) (others later : List (List ℕ)) → (bytes ∷ others) ≡ (other ∷ later) → input_limit ≤ length other → length bytes < input_limit → ⊥
too_long bytes other others later e long below =
    let same : bytes ≡ other = cc in
    let both : length bytes ≡ length other = ap length same in
    omega (arith, both, long, below)

pub audits_are_done : AuditsAreDone
audits_are_done plan Done before after run bytes served = inl refl
audits_are_done plan Refused before after run bytes served = inr (inl refl)
audits_are_done plan Memory before after run bytes served = inr (inr refl)
audits_are_done plan WriteFault before after run bytes served = absurd (no_failure served.writes refl)
audits_are_done plan SpawnFault before after run bytes served = absurd (served.steady (served.started.rose refl))
audits_are_done plan InputFull before after run bytes served =
    let long = run.programs (bytes ∷ served.others) served.says in
    absurd (too_long bytes long.bytes served.others long.others long.first long.full served.below)
audits_are_done plan Usage before after run bytes served = absurd run
audits_are_done plan ReadFault before after run bytes served = absurd run
audits_are_done plan BadInput before after run bytes served = absurd run

-- the audit is that of what the program says
whole_of : (plan : AuditPlan) (t : AuditState) (status : Status) (before after : World) (bytes : List ℕ) → AuditOver plan t before.engines after.engines → IsServed status before after bytes
    → (Rose before.engines.engine_faults after.engines.engine_faults → ⊥) → t ≡ audit_of plan (lines bytes)
whole_of plan t status before after bytes over served calm =
    let one = over.programs (bytes ∷ served.others) served.says in
    let same : one.bytes ≡ bytes = let e = one.first in cc in
    (one.whole calm).audit ∙ ap (λ (x : List ℕ). audit_of plan (lines x)) same

pub audits_are_right : AuditsAreRight
audits_are_right plan Done before after (t, none, tells) bytes served calm =
    let whole = whole_of plan t Done before after bytes tells.played served calm in (
      λ e. (audits_find_faults plan (lines bytes)).0 (ap (λ (x : AuditState). x.findings) (sym whole) ∙ none),
      λ e. absurd (cc),
    )
audits_are_right plan Refused before after (t, some_, tells) bytes served calm =
    let whole = whole_of plan t Refused before after bytes tells.played served calm in (
      λ e. absurd (cc),
      λ e right.
          let none : t.findings ≡ 0 = ap (λ (x : AuditState). x.findings) whole ∙ (audits_find_faults plan (lines bytes)).1 right in
          omega (arith, none, some_),
    )
audits_are_right plan Memory before after run bytes served calm = (λ e. absurd (cc), λ e. absurd (cc))
audits_are_right plan WriteFault before after run bytes served calm = (λ e. absurd (cc), λ e. absurd (cc))
audits_are_right plan SpawnFault before after run bytes served calm = (λ e. absurd (cc), λ e. absurd (cc))
audits_are_right plan InputFull before after run bytes served calm = (λ e. absurd (cc), λ e. absurd (cc))
audits_are_right plan Usage before after run bytes served calm = absurd run
audits_are_right plan ReadFault before after run bytes served calm = absurd run
audits_are_right plan BadInput before after run bytes served calm = absurd run
