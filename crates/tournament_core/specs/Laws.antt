-- Laws of tournaments.
use Rattle.std.specs.Prelude.{◌≡◌, ℕ, ◌*◌, Bool, not, ◌&&◌, ◌||◌, nat_eq, nat_le, nat_lt, List, length, if◌then◌else◌}
use Rattle.std.specs.List.{All, count_by, sum_by}
use Rattle.std.specs.List.Sorted.{IsPermutation}
use Rattle.tournament_core.specs.declared.fixtures.Fixture.{Fixture}
use Rattle.tournament_core.specs.declared.plan.Plan.{Plan}
use Rattle.tournament_core.specs.Schedules.{IsFixture, numbers, schedule}
use Rattle.tournament_core.specs.Ends.{PlayedFixture, points, standing}

-- the same opening, the same white and the same black
abbrev pub is_same : Fixture → Fixture → Bool
is_same f g = nat_eq f.opening g.opening && nat_eq f.white g.white && nat_eq f.black g.black

-- the number of one of n engines
abbrev pub is_engine : ℕ → ℕ → Bool
is_engine n i = nat_le 1 i && nat_le i n

-- Two engines meet: they are different, and in a gauntlet one of them is engine 1.
abbrev pub do_meet : Plan → ℕ → ℕ → Bool
do_meet p i j =
    is_engine p.engines i && is_engine p.engines j && not (nat_eq i j)
    && (not p.gauntlet || nat_eq i 1 || nat_eq j 1)

-- From each opening, each two engines that meet play once a round with these colours, and so also
-- with the other colours. No other game is played.
abbrev pub EquallyOften : Type 0
EquallyOften =
    (p : Plan) (f : Fixture)
    → count_by (is_same f) (schedule p)
    ≡ (if nat_lt f.opening p.openings && do_meet p f.white f.black then p.rounds else 0)

-- The points of all engines add up to twice the number of games.
abbrev pub PointsAddUp : Type 0
PointsAddUp =
    (n : ℕ) (games : List PlayedFixture) → All (λ g. IsFixture n g.fixture) games
    → sum_by (points games) (numbers n) ≡ 2 * length games

-- The order of the games does not matter.
abbrev pub OrderIsFree : Type 0
OrderIsFree =
    (games others : List PlayedFixture) → IsPermutation games others
    → (e : ℕ) → standing games e ≡ standing others e
