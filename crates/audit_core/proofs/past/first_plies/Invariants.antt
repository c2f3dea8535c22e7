use Rattle.std.proofs.Common.{◌≤◌}
use Rattle.audit_core.proofs.Forward.{IsPast}
use Rattle.audit_core.proofs.past.first_plies.Given as goal

abbrev pub invariant-loop-i : goal.invariant-loop-i
invariant-loop-i g l = record {
  past : IsPast (g.G.Game.history l.game) (g.G.Game.history l.past) l.reserved l.i;
  within : l.i ≤ l.plies;
}
