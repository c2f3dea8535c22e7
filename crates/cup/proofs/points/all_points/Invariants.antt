use Rattle.std.proofs.Common.{◌≡◌, ◌≤◌, ◌+◌, ◌*◌, drop}
use Rattle.std.specs.List.{sum_by, zip}
use Rattle.cup.specs.Cup.{gets}
use Rattle.cup.proofs.points.all_points.Given as goal

abbrev pub invariant-loop-i : goal.invariant-loop-i
invariant-loop-i l = record {
  sum : l.points + sum_by (gets l.engine) (drop l.i (zip l.games l.verdicts)) ≡ sum_by (gets l.engine) (zip l.games l.verdicts);
  few : l.points ≤ 4 * l.i;
}
