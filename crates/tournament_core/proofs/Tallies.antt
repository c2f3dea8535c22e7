-- The results of an engine, by a tally and by the games.
use Rattle.std.proofs.Common.{◌≡◌, ℕ, ◌+◌, ◌*◌, Bool, cond, List, sym, ap, arith, ◌∙◌}
use Rattle.std.specs.List.{All, count_by, sum_by}
use Rattle.tournament_core.specs.Schedules.{IsEngine, IsFixture, numbers}
use Rattle.tournament_core.specs.Ends.{Each, PlayedFixture, plays, won, lost, drew, forfeited, points, worth_by, beaten}
use Rattle.tournament_core.specs.Counts.{Counts, count_at, has_beaten, have_drawn, has_forfeited, IsTallyOf}
use Rattle.tournament_core.specs.Laws.{PointsAddUp}
use Rattle.tournament_core.proofs.Eachs.{each-all, each-turned, each-engine}
use Rattle.tournament_core.proofs.SumLaws.{sum-swap, sum-each, sum-same, sum-plus, count-times}
use Rattle.tournament_core.proofs.Results.{won-one, lost-one, drew-one, forfeit-one, beaten-one, plays-one, total-one}

games-each : (n : ℕ) (P : PlayedFixture → Type 0) (games : List PlayedFixture) → All (λ g. IsFixture n g.fixture) games → ((g : PlayedFixture) → IsFixture n g.fixture → P g) → Each P games
games-each n P games all f = each-turned (λ g. IsFixture n g.fixture) P games f (each-all (λ g. IsFixture n g.fixture) games all)

-- counts for each other engine add up to a count for one engine
count-all : (n : ℕ) (games : List PlayedFixture) (count : ℕ → ℕ) (test : ℕ → PlayedFixture → Bool) (one : PlayedFixture → Bool) →
    ((j : ℕ) → IsEngine n j → count j ≡ count_by (test j) games) →
    ((g : PlayedFixture) → IsFixture n g.fixture → sum_by (λ j. cond (test j g) 1 0) (numbers n) ≡ cond (one g) 1 0) →
    All (λ g. IsFixture n g.fixture) games → sum_by count (numbers n) ≡ count_by one games
count-all n games count test one counts each all =
    sum-each count (λ j. count_by (test j) games) (numbers n) (each-turned (IsEngine n) (λ j. count j ≡ count_by (test j) games) (numbers n) counts (each-engine n))
    ∙ sum-swap (λ j g. cond (test j g) 1 0) (numbers n) games
    ∙ sum-each (λ g. sum_by (λ j. cond (test j g) 1 0) (numbers n)) (λ g. cond (one g) 1 0) games (games-each n (λ g. sum_by (λ j. cond (test j g) 1 0) (numbers n) ≡ cond (one g) 1 0) games all each)

pub tally-wins : (games : List PlayedFixture) (t : Counts) (e : ℕ) → IsTallyOf games t → IsEngine t.engines e → sum_by (λ other. count_at t.wins e other) (numbers t.engines) ≡ count_by (won e) games
tally-wins games t e is here =
    count-all t.engines games (count_at t.wins e) (has_beaten e) (won e) (λ j low. is.wins e j here low) (λ g f. won-one t.engines e g.fixture g.ended.winner f) is.fixtures

pub tally-losses : (games : List PlayedFixture) (t : Counts) (e : ℕ) → IsTallyOf games t → IsEngine t.engines e → sum_by (λ other. count_at t.wins other e) (numbers t.engines) ≡ count_by (lost e) games
tally-losses games t e is here =
    count-all t.engines games (λ j. count_at t.wins j e) (λ j. has_beaten j e) (lost e) (λ j low. is.wins j e low here) (λ g f. lost-one t.engines e g.fixture g.ended.winner f) is.fixtures

pub tally-draws : (games : List PlayedFixture) (t : Counts) (e : ℕ) → IsTallyOf games t → IsEngine t.engines e → sum_by (λ other. count_at t.draws e other) (numbers t.engines) ≡ count_by (drew e) games
tally-draws games t e is here =
    count-all t.engines games (count_at t.draws e) (have_drawn e) (drew e) (λ j low. is.draws e j here low) (λ g f. drew-one t.engines e g.fixture g.ended.winner f) is.fixtures

pub tally-forfeits : (games : List PlayedFixture) (t : Counts) (e : ℕ) → IsTallyOf games t → IsEngine t.engines e → sum_by (λ other. count_at t.forfeits e other) (numbers t.engines) ≡ count_by (forfeited e) games
tally-forfeits games t e is here =
    count-all t.engines games (count_at t.forfeits e) (has_forfeited e) (forfeited e) (λ j low. is.forfeits e j here low) (λ g f. forfeit-one t.engines e g.fixture g.ended.forfeited g.ended.winner f) is.fixtures

pub tally-beaten : (games : List PlayedFixture) (t : Counts) (e : ℕ) → IsTallyOf games t → IsEngine t.engines e → sum_by (λ other. count_at t.wins e other * points games other) (numbers t.engines) ≡ beaten games e
tally-beaten games t e is here =
    sum-each (λ j. count_at t.wins e j * points games j) (λ j. sum_by (λ g. cond (has_beaten e j g) (points games j) 0) games) (numbers t.engines)
    (each-turned (IsEngine t.engines) (λ j. count_at t.wins e j * points games j ≡ sum_by (λ g. cond (has_beaten e j g) (points games j) 0) games) (numbers t.engines)
    (λ j low. ap (λ k. k * points games j) (is.wins e j here low) ∙ count-times (has_beaten e j) (points games j) games) (each-engine t.engines))
    ∙ sum-swap (λ j g. cond (has_beaten e j g) (points games j) 0) (numbers t.engines) games
    ∙ sum-each (λ g. sum_by (λ j. cond (has_beaten e j g) (points games j) 0) (numbers t.engines)) (λ g. worth_by games g.fixture g.ended.winner e) games
    (games-each t.engines (λ g. sum_by (λ j. cond (has_beaten e j g) (points games j) 0) (numbers t.engines) ≡ worth_by games g.fixture g.ended.winner e) games is.fixtures
    (λ g f. beaten-one games t.engines e g.fixture g.ended.winner f))

pub tally-games : (games : List PlayedFixture) (t : Counts) (e : ℕ) → IsTallyOf games t → count_by (won e) games + count_by (drew e) games + count_by (lost e) games ≡ count_by (plays e) games
tally-games games t e is =
    ap (λ k. k + count_by (lost e) games) (sum-plus (λ g. cond (won e g) 1 0) (λ g. cond (drew e g) 1 0) games)
    ∙ sum-plus (λ g. cond (won e g) 1 0 + cond (drew e g) 1 0) (λ g. cond (lost e g) 1 0) games
    ∙ sym (sum-each (λ g. cond (plays e g) 1 0) (λ g. cond (won e g) 1 0 + cond (drew e g) 1 0 + cond (lost e g) 1 0) games
    (games-each t.engines (λ g. cond (plays e g) 1 0 ≡ cond (won e g) 1 0 + cond (drew e g) 1 0 + cond (lost e g) 1 0) games is.fixtures (λ g f. plays-one t.engines e g.fixture g.ended.winner f)))

-- ---- all points

double-sum : (a : PlayedFixture → ℕ) (games : List PlayedFixture) → 2 * sum_by a games ≡ sum_by (λ g. 2 * a g) games
double-sum a games =
    let two : 2 * sum_by a games ≡ sum_by a games + sum_by a games = omega arith in
    let each : (g : PlayedFixture) → a g + a g ≡ 2 * a g = λ g. omega arith in
    two ∙ sum-plus a a games ∙ (λ i. sum_by (λ g. each g i) games)

points-sum : (games : List PlayedFixture) (e : ℕ) → points games e ≡ sum_by (λ g. 2 * cond (won e g) 1 0 + cond (drew e g) 1 0) games
points-sum games e =
    ap (λ k. k + count_by (drew e) games) (double-sum (λ g. cond (won e g) 1 0) games)
    ∙ sum-plus (λ g. 2 * cond (won e g) 1 0) (λ g. cond (drew e g) 1 0) games

pub points-add-up : PointsAddUp
points-add-up n games all =
    (λ i. sum_by (λ e. points-sum games e i) (numbers n))
    ∙ sum-swap (λ e g. 2 * cond (won e g) 1 0 + cond (drew e g) 1 0) (numbers n) games
    ∙ sum-same (λ g. sum_by (λ e. 2 * cond (won e g) 1 0 + cond (drew e g) 1 0) (numbers n)) 2 games
    (games-each n (λ g. sum_by (λ e. 2 * cond (won e g) 1 0 + cond (drew e g) 1 0) (numbers n) ≡ 2) games all (λ g f. total-one n g.fixture g.ended.winner f))
    ∙ omega arith
