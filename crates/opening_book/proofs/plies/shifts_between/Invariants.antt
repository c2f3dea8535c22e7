use Rattle.std.specs.Prelude.{◌≡◌, ℕ, ◌<◌, None, Some, slice_index_or, length}
use Rattle.hive_model.specs.declared.places.Place.{Place}
use Rattle.hive_model.specs.Places.{IsWithin}
use Rattle.symmetry.specs.Shifts.{IsShift}
use Rattle.opening_book.proofs.plies.shifts_between.Given as goal

abbrev pub invariant-loop-index : goal.invariant-loop-index
invariant-loop-index l = record {
  long : length l.shifts ≡ 12;
  shift : (s : ℕ) → s < l.index → IsShift (slice_index_or l.shifts s None) l.from l.to s;
  within : (s : ℕ) (t : Place) → slice_index_or l.shifts s None ≡ Some t → IsWithin 40000 t;
}
