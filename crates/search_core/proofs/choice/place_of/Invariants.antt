use Rattle.std.proofs.Common.{◌≡◌, ℕ, ◌<◌, Some}
use Rattle.std.specs.List.{slice_get}
use Rattle.hive_model.specs.Stack.{level_of}
use Rattle.search_core.proofs.choice.place_of.Given as goal

-- the moves so far are different ones
abbrev pub invariant-loop-i : goal.invariant-loop-i
invariant-loop-i l = (k : ℕ) → k < l.i → ¬ (slice_get (level_of l.stack l.level) k ≡ Some l.m)
