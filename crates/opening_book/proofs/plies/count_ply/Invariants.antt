use Rattle.std.specs.Prelude.{◌≡◌, ℕ, ◌+◌, ◌<◌, ◌≤◌, Some, slice_get, slice_index}
use Rattle.hive_model.specs.declared.places.Move.{Move}
use Rattle.opening_book.specs.Plies.{is_taken_to, one_if}
use Rattle.opening_book.proofs.plies.count_ply.Given as goal

abbrev pub invariant-loop-i : goal.invariant-loop-i
invariant-loop-i l = record {
  done : (j : ℕ) (m : Move) → j < l.i → slice_get l.moves j ≡ Some m → slice_index l.counts j ≡ slice_index l.initial.counts j + one_if (is_taken_to l.shifts l.played m);
  left : (j : ℕ) → l.i ≤ j → slice_index l.counts j ≡ slice_index l.initial.counts j;
}
