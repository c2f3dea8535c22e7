use Rattle.std.proofs.Common.{◌≡◌, ◌≤◌, ◌+◌, drop}
use Rattle.std.specs.List.{sum_by}
use Rattle.cup.specs.Cup.{plays}
use Rattle.cup.proofs.points.all_games.Given as goal

abbrev pub invariant-loop-i : goal.invariant-loop-i
invariant-loop-i l = record {
  sum : l.count + sum_by (plays l.engine) (drop l.i l.games) ≡ sum_by (plays l.engine) l.games;
  few : l.count ≤ l.i;
}
