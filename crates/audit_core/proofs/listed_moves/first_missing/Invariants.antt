use Rattle.std.proofs.Common.{◌≡◌, drop}
use Rattle.hive_model.specs.Histories.{position}
use Rattle.audit_core.specs.Judging.{first_missing}
use Rattle.audit_core.proofs.listed_moves.first_missing.Given as goal

abbrev pub invariant-loop-m : goal.invariant-loop-m
invariant-loop-m g l =
    first_missing (position (g.G.Game.history l.game)).board l.listed (drop l.m-index l.legal)
    ≡ first_missing (position (g.G.Game.history l.game)).board l.listed l.legal
