-- What the making of a game writes, by the status with which it ends.
use Rattle.std.specs.Prelude.{◌≡◌, ℕ, ◌<◌, List, length, take}
use Rattle.io_edge.specs.Outside.{Told, behind}
use Rattle.command_runs.specs.declared.status.Status.{Status}
use Rattle.command_runs.specs.declared.status.Status.TheVariants.{Done, Refused, Usage, ReadFault, WriteFault, SpawnFault, BadInput, Memory, InputFull}
use Rattle.grow_command.specs.Text.{grow_text}

-- the first n bytes of this text were written, and not all
pub record WroteFront (text : List ℕ) (before after : Told) (n : ℕ) : Type 0 where
  pub cut : n < length text
  pub wrote : after ≡ behind before (take n text)

-- The text about the game of the seed was written. If a write failed, an initial part of it was
-- written, but not all. If memory ran out, nothing was. It ends in no other way.
abbrev pub GrowRun : ℕ → ℕ → Status → Told → Told → Type 0
GrowRun seed plies Done before after = after ≡ behind before (grow_text seed plies)
GrowRun seed plies WriteFault before after =
    (n : ℕ) × WroteFront (grow_text seed plies) before after n
GrowRun seed plies Memory before after = after ≡ before
GrowRun seed plies Refused before after = ⊥
GrowRun seed plies Usage before after = ⊥
GrowRun seed plies ReadFault before after = ⊥
GrowRun seed plies SpawnFault before after = ⊥
GrowRun seed plies BadInput before after = ⊥
GrowRun seed plies InputFull before after = ⊥
