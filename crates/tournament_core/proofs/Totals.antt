-- The order of the games does not matter.
use Rattle.std.proofs.Common.{◌≡◌, ℕ, ◌+◌, ◌*◌, cond, List, refl, sym, ap, ◌∙◌, Some, None, Option}
use Rattle.std.specs.Prelude.{nat_eq}
use Rattle.std.specs.List.{count_by, sum_by}
use Rattle.std.specs.List.Sorted.{IsPermutation}
use Rattle.std.proofs.lemmas.List.Sorted.{sum_by-IsPermutation}
use Rattle.hive_model.specs.declared.pieces.Colour.{Colour}
use Rattle.hive_model.specs.declared.pieces.Colour.TheVariants.{White, Black}
use Rattle.tournament_core.specs.declared.fixtures.Fixture.{Fixture}
use Rattle.tournament_core.specs.declared.standing.Standing.{Standing}
use Rattle.tournament_core.specs.Ends.{PlayedFixture, plays, won, lost, drew, forfeited, points, worth_by, beaten, standing}
use Rattle.tournament_core.specs.Laws.{OrderIsFree}

same-sum : (f : PlayedFixture → ℕ) (games others : List PlayedFixture) → IsPermutation games others → sum_by f games ≡ sum_by f others
same-sum f games others moved = sym (sum_by-IsPermutation f games others moved)

same-points : (games others : List PlayedFixture) → IsPermutation games others → (e : ℕ) → points games e ≡ points others e
same-points games others moved e =
    ap (λ k. 2 * k + count_by (drew e) games) (same-sum (λ g. cond (won e g) 1 0) games others moved)
    ∙ ap (λ k. 2 * count_by (won e) others + k) (same-sum (λ g. cond (drew e g) 1 0) games others moved)

same-worth : (games others : List PlayedFixture) → IsPermutation games others → (f : Fixture) (o : Option Colour) (e : ℕ) → worth_by games f o e ≡ worth_by others f o e
same-worth games others moved f None e = refl
same-worth games others moved f (Some White) e = ap (λ k. cond (nat_eq f.white e) k 0) (same-points games others moved f.black)
same-worth games others moved f (Some Black) e = ap (λ k. cond (nat_eq f.black e) k 0) (same-points games others moved f.white)

same-beaten : (games others : List PlayedFixture) → IsPermutation games others → (e : ℕ) → beaten games e ≡ beaten others e
same-beaten games others moved e =
    (λ i. sum_by (λ g. same-worth games others moved g.fixture g.ended.winner e i) games)
    ∙ same-sum (λ g. worth_by others g.fixture g.ended.winner e) games others moved

-- standings with the same numbers are the same
pub standing-is : (s t : Standing) → s.engine ≡ t.engine → s.points ≡ t.points → s.games ≡ t.games → s.wins ≡ t.wins → s.draws ≡ t.draws → s.losses ≡ t.losses → s.forfeits ≡ t.forfeits → s.beaten ≡ t.beaten → s ≡ t
standing-is s t engine points games wins draws losses forfeits beaten = λ i. record {
  engine = engine i;
  points = points i;
  games = games i;
  wins = wins i;
  draws = draws i;
  losses = losses i;
  forfeits = forfeits i;
  beaten = beaten i;
}

pub order-is-free : OrderIsFree
order-is-free games others moved e =
    standing-is (standing games e) (standing others e) refl
    (same-points games others moved e)
    (same-sum (λ g. cond (plays e g) 1 0) games others moved)
    (same-sum (λ g. cond (won e g) 1 0) games others moved)
    (same-sum (λ g. cond (drew e g) 1 0) games others moved)
    (same-sum (λ g. cond (lost e g) 1 0) games others moved)
    (same-sum (λ g. cond (forfeited e g) 1 0) games others moved)
    (same-beaten games others moved e)
