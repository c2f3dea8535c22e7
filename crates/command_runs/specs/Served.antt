-- Runs without failed calls of their source and sink.
use Rattle.std.specs.Prelude.{◌≡◌, ◌⊎◌, ℕ, ◌<◌, List, length, Some}
use Rattle.io_edge.specs.Outside.{HasCause, Rose}
use Rattle.line_feed.specs.Feed.{input_limit}
use Rattle.command_runs.specs.Input.{Sides}
use Rattle.command_runs.specs.declared.status.Status.{Status}
use Rattle.command_runs.specs.declared.status.Status.TheVariants.{Done, ReadFault, WriteFault, Memory}

-- The counter of failed calls that would be the cause of this failure did not rise.
pub record NoFault (failed : Type 0) : Type 0 where
  pub before : ℕ
  pub after : ℕ
  pub cause : HasCause failed before after
  pub steady : ¬ Rose before after

-- The streams served a run that ends with this status. The counters of failed calls of the source
-- and the sink did not rise. The input is known and below the limit.
pub record Served (status : Status) (before : Sides) (input : List ℕ) : Type 0 where
  pub reads : NoFault (status ≡ ReadFault)
  pub writes : NoFault (status ≡ WriteFault)
  pub told : before.rest ≡ Some input
  pub below : length input < input_limit

-- If the streams serve a run of this kind and its input is one of these, the run ends with `Done`,
-- or with `Memory`.
abbrev pub RunsAreDone : (Status → Sides → Sides → Type 0) → (List ℕ → Type 0) → Type 0
RunsAreDone Run Asks =
    (status : Status) → (before : Sides) → (after : Sides) → Run status before after
    → (input : List ℕ) → Served status before input → Asks input
    → (status ≡ Done) ⊎ (status ≡ Memory)
