use Rattle.std.specs.Prelude.{◌≡◌, ℕ, ◌<◌, false, None, slice_index_or}
use Rattle.symmetry.specs.Takes.{takes_by}
use Rattle.opening_book.proofs.plies.is_taken_to.Given as goal

abbrev pub invariant-loop-index : goal.invariant-loop-index
invariant-loop-index l = (s : ℕ) → s < l.index → takes_by s (slice_index_or l.shifts s None) l.from l.to ≡ false
