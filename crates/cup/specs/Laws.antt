-- The law of points.
use Rattle.std.specs.Prelude.{◌≡◌, ℕ, ◌*◌, ◌-◌, List, length}
use Rattle.std.specs.List.{sum_by}
use Rattle.match_core.specs.declared.verdict.Verdict.{Verdict}
use Rattle.tournament_core.specs.Schedules.{numbers}
use Rattle.cup.specs.Cup.{points}

-- with n engines the points of all of them add up to 2n(n - 1)
abbrev pub PointsAddUp : Type 0
PointsAddUp =
    (n : ℕ) (vs : List Verdict) → length vs ≡ n * (n - 1)
    → sum_by (points n vs) (numbers n) ≡ 2 * (n * (n - 1))
