-- How a migration ends.
use Rattle.std.proofs.Common.{◌≡◌, refl, sym, subst, ◌∙◌, inl}
use Rattle.std.specs.Prelude.{Err}
use Rattle.io_edge.specs.Outside.{Told}
use Rattle.io_edge.specs.Lines.{lines}
use Rattle.command_runs.specs.Input.{Sides, WhereTold}
use Rattle.command_runs.specs.declared.status.Status.{Status}
use Rattle.command_runs.specs.declared.status.Status.TheVariants.{Done, WriteFault}
use Rattle.certificate_verdicts.specs.declared.verdict.Unread.{Unread}
use Rattle.certificate_verdicts.specs.declared.verdict.Unread.TheVariants.{ReadFault as UnreadFault, InputFull as UnreadFull, Memory as UnreadMemory}
use Rattle.certificate_verdicts.specs.Reading.{TellsJudged, WasReadAs}
use Rattle.certificate_verdicts.specs.Runs.{IsUndecided}
use Rattle.certificate_commands.specs.declared.migrating.Taken.{Taken}
use Rattle.certificate_commands.specs.declared.migrating.Taken.TheVariants.{Written, Cut, Missed}
use Rattle.certificate_commands.specs.Migrating.{MigrateRun, MigratesTo, Writes, first_verdict, judged_of}

-- what is known of the input for a text with this result
abbrev pub IsTaken : Taken → Sides → Told → Type 0
IsTaken taken before now =
    WhereTold before.rest (λ input. Writes (first_verdict (lines input)) (MigratesTo (lines input)) taken before.written now)

abbrev pub IsReadAs : Taken → Sides → Told → Type 0
IsReadAs taken before rest = WhereTold before.rest (λ input. WasReadAs 5 (judged_of taken) input rest)

pub all-run : (before after : Sides) → IsTaken Written before after.written → IsReadAs Written before after.rest → MigrateRun Done before after
all-run before after taken read = λ input told.
    let h = taken input told in
    record { text = h.0; is_text = h.1; wrote = h.2; was_read = read input told }

pub cut-run : (before after : Sides) → IsTaken Cut before after.written → IsReadAs Cut before after.rest → MigrateRun WriteFault before after
cut-run before after taken read = λ input told.
    let h = taken input told in
    inl (record { text = h.0; is_text = h.1; n = h.2; cut = h.3; wrote = h.4; was_read = read input told })

-- if a read failed, the lines that were read do not decide
abbrev pub IsBroken : Taken → Sides → Told → Type 0
IsBroken taken before rest = WhereTold before.rest (λ input. taken ≡ Missed UnreadFault → IsUndecided 5 (first_verdict (lines input)) input rest)

pub missed-run : (u : Unread) (status : Status) (before after : Sides) (now : Told) → now ≡ before.written → IsReadAs (Missed u) before after.rest → IsBroken (Missed u) before after.rest → TellsJudged (Err u) status now after.written → MigrateRun status before after
missed-run UnreadFault status before after now same read broken (e, kept) = subst (λ (s : Status). MigrateRun s before after) (sym e) (kept ∙ same, λ input told. record { took = read input told; undecided = broken input told refl })
missed-run UnreadFull status before after now same read broken (e, kept) = subst (λ (s : Status). MigrateRun s before after) (sym e) (kept ∙ same, read)
missed-run UnreadMemory status before after now same read broken (e, kept) = subst (λ (s : Status). MigrateRun s before after) (sym e) (kept ∙ same)
