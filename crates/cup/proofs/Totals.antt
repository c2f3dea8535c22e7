-- All points of a cup.
use Rattle.std.proofs.Common.{◌≡◌, ℕ, zero, suc, ◌+◌, ◌-◌, ◌*◌, ◌<◌, ◌≤◌, true, false, cond, List, [], ◌∷◌, length, map, min, Option, Some, None, refl, sym, ap, arith, ◌∙◌, inl, inr}
use Rattle.std.specs.Prelude.{not, nat_eq}
use Rattle.std.specs.List.{filter, flat_map, sum_by, zip}
use Rattle.std.proofs.lemmas.Bool.{cases_eq}
use Rattle.std.proofs.lemmas.Bool.Decides.{nat_tests}
use Rattle.std.proofs.lemmas.List.Concat.{length-flat_map}
use Rattle.std.proofs.lemmas.Slice.Zip.{length-zip}
use Rattle.hive_model.specs.declared.pieces.Colour.{Colour}
use Rattle.hive_model.specs.declared.pieces.Colour.TheVariants.{White, Black}
use Rattle.hive_model.specs.Lists.{count_from}
use Rattle.hive_model.proofs.GetLemmas.{length-count_from}
use Rattle.match_core.specs.declared.verdict.Verdict.{Verdict}
use Rattle.tournament_core.specs.Schedules.{numbers}
use Rattle.tournament_core.specs.Ends.{Each}
use Rattle.tournament_core.proofs.Eachs.{IsFrom, each-append, each-number, each-turned}
use Rattle.tournament_core.proofs.Numbers.{one-of}
use Rattle.tournament_core.proofs.SumLaws.{sum-plus, sum-same, sum-swap}
use Rattle.cup.specs.declared.pairing.Pairing.{Pairing}
use Rattle.cup.specs.Cup.{row, pairings, winner, worth, points_of, gets}
use Rattle.cup.specs.Laws.{PointsAddUp}
use Rattle.cup.proofs.Games.{row_of}

-- ---- each of them

each-flat : {A B : Type 0} (P : A → Type 0) (Q : B → Type 0) (f : A → List B) → ((x : A) → P x → Each Q (f x)) → (xs : List A) → Each P xs → Each Q (flat_map f xs)
each-flat P Q f step [] each = tt
each-flat P Q f step (x ∷ xs) each = each-append Q (f x) (flat_map f xs) (step x each.0) (each-flat P Q f step xs each.1)

each-zip : {A B : Type 0} (P : A → Type 0) (xs : List A) (ys : List B) → Each P xs → Each (λ g. P g.0) (zip xs ys)
each-zip P [] ys each = tt
each-zip P (x ∷ xs) [] each = tt
each-zip P (x ∷ xs) (y ∷ ys) each = (each.0, each-zip P xs ys each.1)

-- ---- numbers of engines

abbrev IsInCup : ℕ → Pairing → Type 0
IsInCup n g = IsFrom 1 n g.white × IsFrom 1 n g.black

each-row : (n i : ℕ) → IsFrom 1 n i → (xs : List ℕ) → Each (IsFrom 1 n) xs → Each (IsInCup n) (row_of i xs)
each-row n i in_ [] each = tt
each-row n i in_ (j ∷ xs) each =
    elim (not (nat_eq j i)) as (λ t. Each (IsInCup n) (map (λ k. record { white = i; black = k }) (cond t (j ∷ filter (λ k. not (nat_eq k i)) xs) (filter (λ k. not (nat_eq k i)) xs)))) [
      | true ↦ ((in_, each.0), each-row n i in_ xs each.1)
      | false ↦ each-row n i in_ xs each.1
    ]

each-game : (n : ℕ) → Each (IsInCup n) (pairings n)
each-game n = each-flat (IsFrom 1 n) (IsInCup n) (row n) (λ i in_. each-row n i in_ (numbers n) (each-number n 1)) (numbers n) (each-number n 1)

-- ---- how many games there are

row-whole : (i k a : ℕ) → i < a → length (row_of i (count_from a k)) ≡ k
row-whole i zero a low = refl
row-whole i (suc k) a low =
    let other : nat_eq a i ≡ false = grind (arith, nat_tests) in
    ap (λ t. length {A = Pairing} (map (λ j. record { white = i; black = j }) (cond (not t) (a ∷ filter (λ j. not (nat_eq j i)) (count_from (a + 1) k)) (filter (λ j. not (nat_eq j i)) (count_from (a + 1) k))))) other
    ∙ ap suc (row-whole i k (a + 1) (omega (arith, low)))

row-length : (i k a : ℕ) → IsFrom a k i → length (row_of i (count_from a k)) ≡ k - 1
row-length i zero a in_ = absurd (omega (arith, in_.low, in_.high))
row-length i (suc k) a in_ = elim (cases_eq a i) [
  | inl same ↦
      let is : nat_eq a i ≡ true = grind (arith, nat_tests) in
      ap (λ t. length {A = Pairing} (map (λ j. record { white = i; black = j }) (cond (not t) (a ∷ filter (λ j. not (nat_eq j i)) (count_from (a + 1) k)) (filter (λ j. not (nat_eq j i)) (count_from (a + 1) k))))) is
      ∙ row-whole i k (a + 1) (omega (arith, same)) ∙ omega arith
  | inr other ↦
      let not_ : nat_eq a i ≡ false = grind (arith, nat_tests) in
      let rest = row-length i k (a + 1) (record { low = omega (arith, other, in_.low); high = omega (arith, in_.high) }) in
      ap (λ t. length {A = Pairing} (map (λ j. record { white = i; black = j }) (cond (not t) (a ∷ filter (λ j. not (nat_eq j i)) (count_from (a + 1) k)) (filter (λ j. not (nat_eq j i)) (count_from (a + 1) k))))) not_
      ∙ ap suc rest ∙ omega (arith, other, in_.low, in_.high)
]

pub length-pairings : (n : ℕ) → length (pairings n) ≡ n * (n - 1)
length-pairings n =
    length-flat_map (row n) (numbers n)
    ∙ sum-same (λ i. length (row n i)) (n - 1) (numbers n) (each-turned (IsFrom 1 n) (λ i. length (row n i) ≡ n - 1) (numbers n) (λ i in_. row-length i n 1 in_) (each-number n 1))
    ∙ ap (λ k. k * (n - 1)) (length-count_from n 1)

pub few-games : (n : ℕ) → n ≤ 8 → n * (n - 1) ≤ 56
few-games zero h = omega arith
few-games (suc zero) h = omega arith
few-games (suc (suc zero)) h = omega arith
few-games (suc (suc (suc zero))) h = omega arith
few-games (suc (suc (suc (suc zero)))) h = omega arith
few-games (suc (suc (suc (suc (suc zero))))) h = omega arith
few-games (suc (suc (suc (suc (suc (suc zero)))))) h = omega arith
few-games (suc (suc (suc (suc (suc (suc (suc zero))))))) h = omega arith
few-games (suc (suc (suc (suc (suc (suc (suc (suc zero)))))))) h = omega arith
few-games (suc (suc (suc (suc (suc (suc (suc (suc (suc n))))))))) h = absurd (omega (arith, h))

-- ---- the points

worth-both : (o : Option Colour) → worth o White + worth o Black ≡ 2
worth-both None = refl
worth-both (Some White) = refl
worth-both (Some Black) = refl

-- all engines together get 2 points for a game
game-total : (n : ℕ) (g : Pairing × Verdict) → IsInCup n g.0 → sum_by (λ e. gets e g) (numbers n) ≡ 2
game-total n g in_ =
    sym (sum-plus (λ e. cond (nat_eq g.0.white e) (points_of g.1 White) 0) (λ e. cond (nat_eq g.0.black e) (points_of g.1 Black) 0) (numbers n))
    ∙ ap (λ k. k + sum_by (λ e. cond (nat_eq g.0.black e) (points_of g.1 Black) 0) (numbers n)) (one-of (λ e. points_of g.1 White) g.0.white n 1 in_.0)
    ∙ ap (λ k. points_of g.1 White + k) (one-of (λ e. points_of g.1 Black) g.0.black n 1 in_.1)
    ∙ worth-both (winner g.1)

pub points-add-up : PointsAddUp
points-add-up n vs all =
    let games = zip (pairings n) vs in
    let many : length games ≡ n * (n - 1) = length-zip (pairings n) vs ∙ ap (λ k. min k (length vs)) (length-pairings n) ∙ ap (λ k. min (n * (n - 1)) k) all ∙ omega arith in
    sum-swap (λ e g. gets e g) (numbers n) games
    ∙ sum-same (λ g. sum_by (λ e. gets e g) (numbers n)) 2 games
    (each-turned (λ g. IsInCup n g.0) (λ g. sum_by (λ e. gets e g) (numbers n) ≡ 2) games (λ g in_. game-total n g in_) (each-zip (IsInCup n) (pairings n) vs (each-game n)))
    ∙ ap (λ k. k * 2) many
    ∙ omega arith
