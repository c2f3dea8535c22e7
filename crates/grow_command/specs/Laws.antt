-- When the text about a made game is whole, and which best move it names.
use Rattle.std.specs.Prelude.{◌≡◌, ◌⊎◌, ℕ, false}
use Rattle.io_edge.specs.Outside.{Told}
use Rattle.hive_model.specs.declared.places.Move.{Move}
use Rattle.hive_model.specs.Positions.{Position}
use Rattle.hive_model.specs.Legal.{is_over}
use Rattle.hive_model.specs.Minimax.{IsBest}
use Rattle.hive_model.specs.Denotes.{text}
use Rattle.command_runs.specs.Served.{NoFault}
use Rattle.command_runs.specs.declared.status.Status.{Status}
use Rattle.command_runs.specs.declared.status.Status.TheVariants.{Done, WriteFault, Memory}
use Rattle.grow_command.specs.Text.{best_field}
use Rattle.grow_command.specs.Runs.{GrowRun}

-- if the count of write faults did not rise, it is done, unless memory ran out
abbrev pub GrowsAreDone : Type 0
GrowsAreDone =
    (seed plies : ℕ) → (status : Status) → (before : Told) → (after : Told)
    → GrowRun seed plies status before after
    → NoFault (status ≡ WriteFault)
    → (status ≡ Done) ⊎ (status ≡ Memory)

-- if the game goes on, the best move of depth 1 is named, as written in the position
abbrev pub BestMovesAreTold : Type 0
BestMovesAreTold =
    (p : Position) → is_over p ≡ false
    → (m : Move) × IsBest p 1 m × (best_field p ≡ text p.board m)
