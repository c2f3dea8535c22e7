use Rattle.std.proofs.Common.{◌≡◌, ℕ, take, Some}
use Rattle.hive_model.specs.declared.places.Dir.{Dir}
use Rattle.hive_model.specs.Lists.{IsOn}
use Rattle.hive_model.specs.Places.{step, dirs}
use Rattle.hive_model.specs.Boards.{top_at}
use Rattle.one_hive.specs.Visits.{IsSet}
use Rattle.pillbug_throws.proofs.landing.mark_beside.Given as goal

abbrev pub invariant-loop-dir : goal.invariant-loop-dir
invariant-loop-dir g l = record {
  beside : (d : Dir) → IsOn (take l.dir-index dirs) d → (x : ℕ) → top_at (g.B.Board.stacks l.board) (step l.over d) ≡ Some x → IsSet l.marks x;
  kept : (x : ℕ) → IsSet l.fn.marks x → IsSet l.marks x;
}
