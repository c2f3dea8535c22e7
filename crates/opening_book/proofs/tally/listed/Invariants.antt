use Rattle.std.specs.Prelude.{◌≡◌, take}
use Rattle.hive_model.specs.Stack.{level_of}
use Rattle.opening_book.proofs.tally.listed.Given as goal

abbrev pub invariant-loop-i : goal.invariant-loop-i
invariant-loop-i l = l.moves.items ≡ take l.i (level_of l.stack l.level)
