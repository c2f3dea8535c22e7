-- What a tally counts.
use Rattle.std.specs.Prelude.{◌≡◌, ℕ, ◌+◌, ◌*◌, ◌<◌, ◌≤◌, ◌^◌, Bool, ◌&&◌, ◌||◌, nat_eq, is_none, List, length, slice_index, if◌then◌else◌}
use Rattle.std.specs.List.{All, count_by}
use Rattle.tournament_core.specs.Schedules.{IsEngine, IsFixture}
use Rattle.tournament_core.specs.Ends.{PlayedFixture, won, lost, forfeited}

-- a count for each pair of numbers below a width, row by row
pub record Cells : Type 0 where
  pub width : ℕ
  pub counts : List ℕ

-- the count for two numbers
unfoldable pub count_at : Cells → ℕ → ℕ → ℕ
count_at grid row column = slice_index grid.counts (row * grid.width + column)

-- how the counts are stored
pub record IsGrid (width : ℕ) (counts : List ℕ) : Type 0 where
  pub narrow : width ≤ 65
  pub whole : length counts ≡ width * width

-- All counts are 0.
pub record IsBlank (width : ℕ) (grid : Cells) : Type 0 where
  pub wide : grid.width ≡ width
  pub blank : (i j : ℕ) → i < width → j < width → count_at grid i j ≡ 0

-- No count is above this.
abbrev pub IsAtMost : ℕ → Cells → Type 0
IsAtMost most grid = (i j : ℕ) → i < grid.width → j < grid.width → count_at grid i j ≤ most

-- One engine beat another one.
abbrev pub has_beaten : ℕ → ℕ → PlayedFixture → Bool
has_beaten i j g = won i g && lost j g

-- Two engines drew.
abbrev pub have_drawn : ℕ → ℕ → PlayedFixture → Bool
have_drawn i j g =
    is_none g.ended.winner
    && (nat_eq g.fixture.white i && nat_eq g.fixture.black j
    || nat_eq g.fixture.black i && nat_eq g.fixture.white j)

-- One engine lost to another one by forfeit.
abbrev pub has_forfeited : ℕ → ℕ → PlayedFixture → Bool
has_forfeited i j g = forfeited i g && won j g

-- What a tally shows: the numbers of its engines and of the games. For each two engines it shows
-- how often the first beat the second, drew with it, and lost to it by forfeit.
pub record Counts : Type 0 where
  pub engines : ℕ
  pub games : ℕ
  pub wins : Cells
  pub draws : Cells
  pub forfeits : Cells

-- For each two of n engines it counts the games that pass a test.
abbrev pub Counting : ℕ → List PlayedFixture → Cells → (ℕ → ℕ → PlayedFixture → Bool) → Type 0
Counting n games grid test =
    (i j : ℕ) → IsEngine n i → IsEngine n j → count_at grid i j ≡ count_by (test i j) games

-- These are the games that were noted, each between two of the engines.
pub record IsTallyOf (games : List PlayedFixture) (t : Counts) : Type 0 where
  pub many : t.games ≡ length games
  pub fixtures : All (λ g. IsFixture t.engines g.fixture) games
  pub wins : Counting t.engines games t.wins has_beaten
  pub draws : Counting t.engines games t.draws have_drawn
  pub forfeits : Counting t.engines games t.forfeits has_forfeited

-- 1 at one cell, and 0 at each other one
abbrev pub one_at : ℕ → ℕ → ℕ → ℕ → ℕ
one_at row column i j = if nat_eq row i && nat_eq column j then 1 else 0

-- the counts of this number of engines, none above the number of games
pub record IsTable (engines games : ℕ) (grid : Cells) : Type 0 where
  pub wide : grid.width ≡ engines + 1
  pub most : IsAtMost games grid

-- what holds of every tally
pub record IsTally (engines games : ℕ) (wins draws forfeits : Cells) : Type 0 where
  pub some : 2 ≤ engines
  pub few : engines ≤ 64
  pub room : games ≤ 2 ^ 42
  pub wins_table : IsTable engines games wins
  pub draws_table : IsTable engines games draws
  pub forfeits_table : IsTable engines games forfeits
