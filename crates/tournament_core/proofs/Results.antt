-- One game, as it counts for each two engines and for one engine.
use Rattle.std.proofs.Common.{◌≡◌, ℕ, ◌+◌, ◌*◌, Bool, true, false, cond, List, refl, sym, ap, arith, ◌∙◌, Some, None, Option, zero-add}
use Rattle.std.specs.Prelude.{nat_eq, is_none, ◌&&◌, ◌||◌}
use Rattle.std.specs.List.{sum_by}
use Rattle.std.proofs.lemmas.Bool.Decides.{nat_tests}
use Rattle.hive_model.specs.declared.pieces.Colour.{Colour}
use Rattle.hive_model.specs.declared.pieces.Colour.TheVariants.{White, Black}
use Rattle.tournament_core.specs.declared.fixtures.Fixture.{Fixture}
use Rattle.tournament_core.specs.Schedules.{IsEngine, IsFixture, numbers}
use Rattle.tournament_core.specs.Ends.{PlayedFixture, won_by, lost_by, points, worth_by}
use Rattle.tournament_core.proofs.SumLaws.{sum-zero, sum-plus}
use Rattle.tournament_core.proofs.Numbers.{pick, pick-back}

pub won-one : (n e : ℕ) (fixture : Fixture) (o : Option Colour) → IsFixture n fixture →
    sum_by (λ j. cond (won_by fixture o e && lost_by fixture o j) 1 0) (numbers n) ≡ cond (won_by fixture o e) 1 0
won-one n e fixture None is = sum-zero (numbers n)
won-one n e fixture (Some White) is = pick (λ j. 1) (nat_eq fixture.white e) n fixture.black is.black
won-one n e fixture (Some Black) is = pick (λ j. 1) (nat_eq fixture.black e) n fixture.white is.white

pub lost-one : (n e : ℕ) (fixture : Fixture) (o : Option Colour) → IsFixture n fixture →
    sum_by (λ j. cond (won_by fixture o j && lost_by fixture o e) 1 0) (numbers n) ≡ cond (lost_by fixture o e) 1 0
lost-one n e fixture None is = sum-zero (numbers n)
lost-one n e fixture (Some White) is = pick-back (λ j. 1) (nat_eq fixture.black e) n fixture.white is.white
lost-one n e fixture (Some Black) is = pick-back (λ j. 1) (nat_eq fixture.white e) n fixture.black is.black

or-false : (t : Bool) → (t || false) ≡ t
or-false true = refl
or-false false = refl

-- two tests that do not both pass
pub one-of-two : (t u : Bool) → (t ≡ true → u ≡ true → ⊥) → cond (t || u) 1 0 ≡ cond t 1 0 + cond u 1 0
one-of-two true true apart = absurd (apart refl refl)
one-of-two true false apart = refl
one-of-two false true apart = refl
one-of-two false false apart = refl

pub apart : (w b e : ℕ) → (w ≡ b → ⊥) → nat_eq w e ≡ true → nat_eq b e ≡ true → ⊥
apart w b e other first second = other (grind (arith, nat_tests))

drawn-one : (t u : Bool) (n w b : ℕ) → (t ≡ true → u ≡ true → ⊥) → IsEngine n w → IsEngine n b →
    sum_by (λ j. cond (t && nat_eq b j || u && nat_eq w j) 1 0) (numbers n) ≡ cond (t || u) 1 0
drawn-one true true n w b none is_w is_b = absurd (none refl refl)
drawn-one true false n w b none is_w is_b = (λ i. sum_by (λ j. cond (or-false (nat_eq b j) i) 1 0) (numbers n)) ∙ pick (λ j. 1) true n b is_b
drawn-one false true n w b none is_w is_b = pick (λ j. 1) true n w is_w
drawn-one false false n w b none is_w is_b = sum-zero (numbers n)

pub drew-one : (n e : ℕ) (fixture : Fixture) (o : Option Colour) → IsFixture n fixture →
    sum_by (λ j. cond (is_none o && (nat_eq fixture.white e && nat_eq fixture.black j || nat_eq fixture.black e && nat_eq fixture.white j)) 1 0) (numbers n)
    ≡ cond (is_none o && (nat_eq fixture.white e || nat_eq fixture.black e)) 1 0
drew-one n e fixture None is = drawn-one (nat_eq fixture.white e) (nat_eq fixture.black e) n fixture.white fixture.black (apart fixture.white fixture.black e is.other) is.white is.black
drew-one n e fixture (Some White) is = sum-zero (numbers n)
drew-one n e fixture (Some Black) is = sum-zero (numbers n)

pub forfeit-one : (n e : ℕ) (fixture : Fixture) (f : Bool) (o : Option Colour) → IsFixture n fixture →
    sum_by (λ j. cond ((f && lost_by fixture o e) && won_by fixture o j) 1 0) (numbers n) ≡ cond (f && lost_by fixture o e) 1 0
forfeit-one n e fixture true None is = sum-zero (numbers n)
forfeit-one n e fixture false None is = sum-zero (numbers n)
forfeit-one n e fixture f (Some White) is = pick (λ j. 1) (f && nat_eq fixture.black e) n fixture.white is.white
forfeit-one n e fixture f (Some Black) is = pick (λ j. 1) (f && nat_eq fixture.white e) n fixture.black is.black

-- the points of the engine that was beaten
pub beaten-one : (games : List PlayedFixture) (n e : ℕ) (fixture : Fixture) (o : Option Colour) → IsFixture n fixture →
    sum_by (λ j. cond (won_by fixture o e && lost_by fixture o j) (points games j) 0) (numbers n) ≡ worth_by games fixture o e
beaten-one games n e fixture None is = sum-zero (numbers n)
beaten-one games n e fixture (Some White) is = pick (points games) (nat_eq fixture.white e) n fixture.black is.black
beaten-one games n e fixture (Some Black) is = pick (points games) (nat_eq fixture.black e) n fixture.white is.white

-- an engine that plays in a game won it, drew it or lost it
pub plays-one : (n e : ℕ) (fixture : Fixture) (o : Option Colour) → IsFixture n fixture →
    cond (nat_eq fixture.white e || nat_eq fixture.black e) 1 0
    ≡ cond (won_by fixture o e) 1 0 + cond (is_none o && (nat_eq fixture.white e || nat_eq fixture.black e)) 1 0 + cond (lost_by fixture o e) 1 0
plays-one n e fixture None is = omega arith
plays-one n e fixture (Some White) is = one-of-two (nat_eq fixture.white e) (nat_eq fixture.black e) (apart fixture.white fixture.black e is.other) ∙ omega arith
plays-one n e fixture (Some Black) is = one-of-two (nat_eq fixture.white e) (nat_eq fixture.black e) (apart fixture.white fixture.black e is.other) ∙ omega arith

twice : (t : Bool) → 2 * cond t 1 0 + 0 ≡ cond t 2 0
twice true = refl
twice false = refl

all-of : (k n w : ℕ) → IsEngine n w → sum_by (λ e. cond (nat_eq w e) k 0) (numbers n) ≡ k
all-of k n w is = pick (λ e. k) true n w is

-- all engines together get 2 points for a game
pub total-one : (n : ℕ) (fixture : Fixture) (o : Option Colour) → IsFixture n fixture →
    sum_by (λ e. 2 * cond (won_by fixture o e) 1 0 + cond (is_none o && (nat_eq fixture.white e || nat_eq fixture.black e)) 1 0) (numbers n) ≡ 2
total-one n fixture None is =
    let each : (e : ℕ) → 0 + cond (nat_eq fixture.white e || nat_eq fixture.black e) 1 0 ≡ cond (nat_eq fixture.white e) 1 0 + cond (nat_eq fixture.black e) 1 0 = λ e. zero-add _ ∙ one-of-two (nat_eq fixture.white e) (nat_eq fixture.black e) (apart fixture.white fixture.black e is.other) in
    (λ i. sum_by (λ e. each e i) (numbers n))
    ∙ sym (sum-plus (λ e. cond (nat_eq fixture.white e) 1 0) (λ e. cond (nat_eq fixture.black e) 1 0) (numbers n))
    ∙ ap (λ k. k + sum_by (λ e. cond (nat_eq fixture.black e) 1 0) (numbers n)) (all-of 1 n fixture.white is.white)
    ∙ ap (λ k. 1 + k) (all-of 1 n fixture.black is.black)
total-one n fixture (Some White) is = (λ i. sum_by (λ e. twice (nat_eq fixture.white e) i) (numbers n)) ∙ all-of 2 n fixture.white is.white
total-one n fixture (Some Black) is = (λ i. sum_by (λ e. twice (nat_eq fixture.black e) i) (numbers n)) ∙ all-of 2 n fixture.black is.black
