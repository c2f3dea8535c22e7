use Rattle.std.proofs.Common.{◌≡◌, take}
use Rattle.hive_model.specs.Stack.{level_of}
use Rattle.audit_core.proofs.lists.level_moves.Given as goal

abbrev pub invariant-loop-i : goal.invariant-loop-i
invariant-loop-i l = l.listed ≡ take l.i (level_of l.stack 0)
