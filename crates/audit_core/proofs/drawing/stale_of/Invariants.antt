use Rattle.std.proofs.Common.{◌≡◌, ◌++◌, drop}
use Rattle.std.specs.Prelude.{not}
use Rattle.std.specs.List.{filter}
use Rattle.audit_core.specs.Judging.{has_move}
use Rattle.audit_core.proofs.drawing.stale_of.Given as goal

abbrev pub invariant-loop-m : goal.invariant-loop-m
invariant-loop-m l =
    l.stale ++ filter (λ m. not (has_move l.now m)) (drop l.m-index l.before)
    ≡ filter (λ m. not (has_move l.now m)) l.before
