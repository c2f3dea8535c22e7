use Rattle.std.proofs.Common.{◌≡◌, ◌++◌, drop}
use Rattle.std.specs.List.{filter}
use Rattle.hive_model.specs.Histories.{position}
use Rattle.audit_core.specs.Drawing.{is_wanted}
use Rattle.audit_core.proofs.drawing.wanted_of.Given as goal

abbrev pub invariant-loop-m : goal.invariant-loop-m
invariant-loop-m g l =
    l.wanted ++ filter (is_wanted l.siege (position (g.G.Game.history l.game))) (drop l.m-index l.all)
    ≡ filter (is_wanted l.siege (position (g.G.Game.history l.game))) l.all
