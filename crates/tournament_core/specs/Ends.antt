-- The results of games that were played: points, and the standing of each engine.
use Rattle.std.specs.Prelude.{ℕ, ◌+◌, ◌*◌, Bool, false, ◌&&◌, ◌||◌, nat_eq, nat_lt, is_none, List, [], ◌∷◌, map, Option, Some, None, IsTrue, if◌then◌else◌}
use Rattle.std.specs.List.{count_by, sum_by}
use Rattle.std.specs.List.Sorted.{IsPermutation}
use Rattle.hive_model.specs.declared.pieces.Colour.{Colour}
use Rattle.hive_model.specs.declared.pieces.Colour.TheVariants.{White, Black}
use Rattle.hive_model.specs.Pieces.{other_side}
use Rattle.tournament_core.specs.declared.fixtures.Fixture.{Fixture}
use Rattle.tournament_core.specs.declared.fixtures.GameEnd.{GameEnd}
use Rattle.tournament_core.specs.declared.standing.Standing.{Standing}
use Rattle.tournament_core.specs.Schedules.{numbers}

-- a game that was played: who played it, and how it ended
pub record PlayedFixture : Type 0 where
  pub fixture : Fixture
  pub ended : GameEnd

-- the engine that plays a side
abbrev pub player : Fixture → Colour → ℕ
player f White = f.white
player f Black = f.black

-- An engine plays in a game.
abbrev pub plays : ℕ → PlayedFixture → Bool
plays e g = nat_eq g.fixture.white e || nat_eq g.fixture.black e

-- An engine won a game: it played the side that won.
abbrev pub won_by : Fixture → Option Colour → ℕ → Bool
won_by f None e = false
won_by f (Some side) e = nat_eq (player f side) e

abbrev pub won : ℕ → PlayedFixture → Bool
won e g = won_by g.fixture g.ended.winner e

-- It lost a game: it played the other side.
abbrev pub lost_by : Fixture → Option Colour → ℕ → Bool
lost_by f None e = false
lost_by f (Some side) e = nat_eq (player f (other_side side)) e

abbrev pub lost : ℕ → PlayedFixture → Bool
lost e g = lost_by g.fixture g.ended.winner e

-- It drew a game: it played, and neither side won.
abbrev pub drew : ℕ → PlayedFixture → Bool
drew e g = is_none g.ended.winner && plays e g

-- It lost a game by forfeit.
abbrev pub forfeited : ℕ → PlayedFixture → Bool
forfeited e g = g.ended.forfeited && lost e g

-- the points of an engine: 2 for a game that it won, and 1 for one that it drew
abbrev pub points : List PlayedFixture → ℕ → ℕ
points games e = 2 * count_by (won e) games + count_by (drew e) games

-- the value of a game for an engine that beat another one: the points that the other one has in all
abbrev pub worth_by : List PlayedFixture → Fixture → Option Colour → ℕ → ℕ
worth_by games f None e = 0
worth_by games f (Some side) e =
    if nat_eq (player f side) e then points games (player f (other_side side)) else 0

abbrev pub beaten : List PlayedFixture → ℕ → ℕ
beaten games e = sum_by (λ g. worth_by games g.fixture g.ended.winner e) games

-- the standing of an engine after games
abbrev pub standing : List PlayedFixture → ℕ → Standing
standing games e = record {
  engine = e;
  points = points games e;
  games = count_by (plays e) games;
  wins = count_by (won e) games;
  draws = count_by (drew e) games;
  losses = count_by (lost e) games;
  forfeits = count_by (forfeited e) games;
  beaten = beaten games e;
}

-- It has more points, or equal points and more of those that were beaten, or is equal in both and
-- has the lower number.
abbrev pub is_ahead : Standing → Standing → Bool
is_ahead a b =
    nat_lt b.points a.points
    || nat_eq a.points b.points
    && (nat_lt b.beaten a.beaten || nat_eq a.beaten b.beaten && nat_lt a.engine b.engine)

-- a fact for each element of a list
abbrev pub Each : {A : Type 0} → (A → Type 0) → List A → Type 0
Each P [] = Unit {0}
Each P (x ∷ xs) = P x × Each P xs

-- Each is ahead of all after it.
abbrev pub IsInOrder : List Standing → Type 0
IsInOrder [] = Unit {0}
IsInOrder (s ∷ ss) = Each (λ t. IsTrue (is_ahead s t)) ss × IsInOrder ss

-- the standings of n engines after games: each of them once, in order
pub record AreStandings (n : ℕ) (games : List PlayedFixture) (list : List Standing) : Type 0 where
  pub every : IsPermutation (map (standing games) (numbers n)) list
  pub order : IsInOrder list
