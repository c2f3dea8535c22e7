-- The games of a tournament in their order.
use Rattle.std.specs.Prelude.{◌≢◌, ℕ, ◌+◌, ◌-◌, ◌≤◌, List, [], ◌∷◌, map, if◌then◌else◌}
use Rattle.std.specs.List.{flat_map}
use Rattle.hive_model.specs.Lists.{count_from}
use Rattle.tournament_core.specs.declared.fixtures.Fixture.{Fixture}
use Rattle.tournament_core.specs.declared.pairs.Pair.{Pair}
use Rattle.tournament_core.specs.declared.plan.Plan.{Plan}

-- A plan has 2 to 64 engines, 1 to 10,000 rounds and 1 to 100,000 openings.
pub record IsPlan (p : Plan) : Type 0 where
  pub two_engines : 2 ≤ p.engines
  pub few_engines : p.engines ≤ 64
  pub some_rounds : 1 ≤ p.rounds
  pub few_rounds : p.rounds ≤ 10000
  pub some_openings : 1 ≤ p.openings
  pub few_openings : p.openings ≤ 100000

-- the numbers of n engines, counted from 1
abbrev pub numbers : ℕ → List ℕ
numbers n = count_from 1 n

-- the pairs of an engine with each engine of a higher number
abbrev pub pairs_of : ℕ → ℕ → List Pair
pairs_of n i = map (λ j. record { first = i; second = j }) (count_from (i + 1) (n - i))

-- all pairs of n engines, by the first one's number and then by the second one's
abbrev pub all_pairs : ℕ → List Pair
all_pairs n = flat_map (pairs_of n) (numbers n)

-- the pairs that meet: in a gauntlet only those of engine 1
abbrev pub pairs : Plan → List Pair
pairs p = if p.gauntlet then pairs_of p.engines 1 else all_pairs p.engines

-- A pair plays two games. Its first engine has white in the first, and its second engine in the
-- second.
abbrev pub two_games : ℕ → Pair → List Fixture
two_games o p =
    record { opening = o; white = p.first; black = p.second }
    ∷ record { opening = o; white = p.second; black = p.first } ∷ []

-- From an opening each pair plays its two games.
abbrev pub games_from : Plan → ℕ → List Fixture
games_from p o = flat_map (two_games o) (pairs p)

-- In a round the openings, numbered from 0, come one after another.
abbrev pub round_of : Plan → List Fixture
round_of p = flat_map (games_from p) (count_from 0 p.openings)

-- all games: one round after another
unfoldable pub schedule : Plan → List Fixture
schedule p = flat_map (λ round. round_of p) (count_from 1 p.rounds)

-- the number of one of n engines
pub record IsEngine (n i : ℕ) : Type 0 where
  pub low : 1 ≤ i
  pub high : i ≤ n

-- a game of two of n engines
pub record IsFixture (n : ℕ) (f : Fixture) : Type 0 where
  pub white : IsEngine n f.white
  pub black : IsEngine n f.black
  pub other : f.white ≢ f.black
