-- Laws of certificates that are made into ones that cite.
use Rattle.std.specs.Prelude.{ℕ, List}
use Rattle.hive_model.specs.declared.places.Move.{Move}
use Rattle.io_edge.specs.Lines.{lines}
use Rattle.certificate_text.specs.declared.head.Head.{Head}
use Rattle.command_runs.specs.Input.{Sides}
use Rattle.command_runs.specs.Served.{RunsAreDone}
use Rattle.command_runs.specs.declared.status.Status.TheVariants.{Done}
use Rattle.certificate_verdicts.specs.Laws.{WritesAccepted}
use Rattle.certificate_commands.specs.Laws.{HoldsOf}
use Rattle.certificate_commands.specs.Verdicts.{verdict}
use Rattle.certificate_commands.specs.Migrating.{MigrateRun}

-- Let the input be a certificate of the first version that holds. If the streams served the run, it
-- ends with `Done`, or because memory ran out.
abbrev pub MigrationsAreDone : Type 0
MigrationsAreDone =
    RunsAreDone MigrateRun
    (λ input. (head : Head) × (m : Move) × (indices : List ℕ)
    × HoldsOf (lines input) head m indices)

-- If a run is done, what it writes is accepted.
abbrev pub MigratedIsAccepted : Type 0
MigratedIsAccepted =
    (before : Sides) → (after : Sides) → MigrateRun Done before after
    → WritesAccepted verdict before after
