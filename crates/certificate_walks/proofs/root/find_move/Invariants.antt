use Rattle.std.proofs.Common.{◌≡◌, drop}
use Rattle.std.specs.List.{position_from}
use Rattle.hive_model.specs.Histories.{is_move}
use Rattle.hive_model.specs.Stack.{level_of}
use Rattle.certificate_walks.specs.Walks.{place_of}
use Rattle.certificate_walks.proofs.root.find_move.Given as goal

-- the place is that among the moves that are left
abbrev pub invariant-loop-i : goal.invariant-loop-i
invariant-loop-i l = place_of l.m (level_of l.stack l.level) ≡ position_from (is_move l.m) l.i (drop l.i (level_of l.stack l.level))
