-- Certificates of the first version that hold are made into ones that cite.
use Rattle.std.proofs.Common.{◌≡◌, ◌⊎◌, ℕ, List, drop, refl, ap, ◌∙◌, inl, inr}
use Rattle.std.specs.Prelude.{Ok}
use Rattle.io_edge.specs.Outside.{behind}
use Rattle.hive_model.specs.declared.places.Move.{Move}
use Rattle.io_edge.specs.Lines.{Line, lines}
use Rattle.certificate_text.specs.declared.head.Head.{Head}
use Rattle.certificate_text.specs.Text.{head_of}
use Rattle.command_runs.specs.Input.{Sides}
use Rattle.command_runs.specs.Served.{Served}
use Rattle.command_runs.specs.declared.status.Status.{Status}
use Rattle.command_runs.specs.declared.status.Status.TheVariants.{Done, Refused, Usage, ReadFault, WriteFault, SpawnFault, BadInput, Memory, InputFull}
use Rattle.certificate_verdicts.specs.declared.verdict.TextVerdict.TheVariants.{Accepted}
use Rattle.certificate_verdicts.specs.Verdicts.{of_walk}
use Rattle.command_runs.proofs.ServedLemmas.{no_failure}
use Rattle.certificate_verdicts.proofs.JudgeLaws.{accepted-done}
use Rattle.certificate_verdicts.proofs.TextLaws.{verdict-is}
use Rattle.certificate_commands.specs.Laws.{HoldsOf}
use Rattle.certificate_commands.specs.Verdicts.{end_of, of_claim, of_items}
use Rattle.certificate_commands.specs.Migrating.{MigrateRun, first_verdict}
use Rattle.certificate_commands.specs.MigrationLaws.{MigratedIsAccepted, MigrationsAreDone}
use Rattle.certificate_commands.proofs.CitingTexts.{migrated-accepted}
use Rattle.certificate_commands.proofs.HeadLaws.{head-first}
use Rattle.certificate_commands.proofs.MigrateLaws.{claim-items}

pub first-accepted : (ls : List Line) (head : Head) (m : Move) (indices : List ℕ) → HoldsOf ls head m indices → first_verdict ls ≡ Accepted
first-accepted ls head m indices h =
    verdict-is 5 (head_of 1) of_claim ls (Ok head) (head-first ls head h.claims.has_head h.claims.is_of)
    ∙ claim-items head (drop 5 ls) m h.claims.is_of h.claims.open_ h.claims.denotes
    ∙ ap (of_items (end_of head) head.depth m head.value) h.are_items
    ∙ ap (of_walk 5) h.hold.1

ended : (status : Status) (before after : Sides) → MigrateRun status before after → (input : List ℕ) → Served status before input
    → first_verdict (lines input) ≡ Accepted → (status ≡ Done) ⊎ (status ≡ Memory)
ended Done before after run input served is = inl refl
ended Refused before after run input served is = accepted-done 5 first_verdict Refused before after run input served is
ended Usage before after run input served is = absurd run
ended ReadFault before after run input served is = absurd (no_failure served.reads refl)
ended WriteFault before after run input served is = absurd (no_failure served.writes refl)
ended SpawnFault before after run input served is = absurd run
ended BadInput before after run input served is = accepted-done 5 first_verdict BadInput before after run input served is
ended Memory before after run input served is = inr refl
ended InputFull before after run input served is = accepted-done 5 first_verdict InputFull before after run input served is

pub migrations-done : MigrationsAreDone
migrations-done = λ status before after run input served asks.
    let (head, m, indices, h) = asks in
    ended status before after run input served (first-accepted (lines input) head m indices h)

pub migrated-are-accepted : MigratedIsAccepted
migrated-are-accepted = λ before after run input told none.
    let w = run input told in
    (w.text, w.wrote ∙ ap (λ x. behind x w.text) none, migrated-accepted (lines input) w.text w.is_text)
