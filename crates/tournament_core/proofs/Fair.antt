-- How often a game is in a schedule.
use Rattle.std.proofs.Common.{◌≡◌, ℕ, ◌+◌, ◌-◌, ◌*◌, ◌<◌, ◌≤◌, Bool, true, false, cond, List, [], ◌∷◌, map, refl, sym, ap, arith, ◌∙◌, inl, inr}
use Rattle.std.specs.Prelude.{not, nat_eq, nat_lt, nat_le, ◌&&◌, ◌||◌, if◌then◌else◌}
use Rattle.std.specs.List.{count_by, sum_by}
use Rattle.std.proofs.lemmas.Bool.{cases_lt}
use Rattle.std.proofs.lemmas.Bool.Decides.{nat_tests}
use Rattle.std.proofs.lemmas.List.Sums.{sum_by-cons}
use Rattle.hive_model.specs.Lists.{count_from}
use Rattle.hive_model.proofs.GetLemmas.{length-count_from}
use Rattle.tournament_core.specs.declared.fixtures.Fixture.{Fixture}
use Rattle.tournament_core.specs.declared.pairs.Pair.{Pair}
use Rattle.tournament_core.specs.declared.plan.Plan.{Plan}
use Rattle.tournament_core.specs.Schedules.{numbers, pairs_of, all_pairs, pairs, two_games, games_from, round_of, schedule}
use Rattle.tournament_core.specs.Laws.{is_same, is_engine, do_meet, EquallyOften}
use Rattle.tournament_core.proofs.Eachs.{each-every}
use Rattle.tournament_core.proofs.SumLaws.{sum-zero, sum-plus, sum-same}
use Rattle.tournament_core.proofs.Numbers.{one-of, outside, below}
use Rattle.tournament_core.proofs.Flats.{count-flat}

sum-map : {A B : Type 0} (f : B → ℕ) (g : A → B) (xs : List A) → sum_by f (map g xs) ≡ sum_by (λ x. f (g x)) xs
sum-map f g [] = refl
sum-map f g (x ∷ xs) = sum_by-cons f (g x) (map g xs) ∙ ap (λ n. f (g x) + n) (sum-map f g xs) ∙ sym (sum_by-cons (λ y. f (g y)) x xs)

-- ---- pairs

-- how often two engines are a pair of the list
abbrev pair_count : ℕ → ℕ → List Pair → ℕ
pair_count i j qs = count_by (λ q. nat_eq i q.first && nat_eq j q.second) qs

passes : (a n j : ℕ) → a < j → j ≤ n → (nat_lt a j && nat_le j n) ≡ true
passes a n j low high = grind (arith, nat_tests)

fails-high : (a n j : ℕ) → n < j → (nat_lt a j && nat_le j n) ≡ false
fails-high a n j high = grind (arith, nat_tests)

fails-low : (a n j : ℕ) → j ≤ a → (nat_lt a j && nat_le j n) ≡ false
fails-low a n j low = grind (arith, nat_tests)

within-count : (a n j : ℕ) → sum_by (λ k. cond (nat_eq j k) 1 0) (count_from (a + 1) (n - a)) ≡ cond (nat_lt a j && nat_le j n) 1 0
within-count a n j = elim (cases_lt a j) [
  | inl low ↦ elim (cases_lt n j) [
    | inl beyond ↦ outside (λ k. 1) j (n - a) (a + 1) (omega (arith, low, beyond)) ∙ sym (ap (λ t. cond t 1 0) (fails-high a n j beyond))
    | inr high ↦ one-of (λ k. 1) j (n - a) (a + 1) (record { low = omega (arith, low); high = omega (arith, low, high) }) ∙ sym (ap (λ t. cond t 1 0) (passes a n j low high))
  ]
  | inr past ↦ below (λ k. 1) j (n - a) (a + 1) (omega (arith, past)) ∙ sym (ap (λ t. cond t 1 0) (fails-low a n j past))
]

row-by : (t : Bool) (j : ℕ) (ks : List ℕ) → sum_by (λ k. cond (t && nat_eq j k) 1 0) ks ≡ cond t (sum_by (λ k. cond (nat_eq j k) 1 0) ks) 0
row-by true j ks = refl
row-by false j ks = sum-zero ks

row-count : (n i j a : ℕ) → pair_count i j (pairs_of n a) ≡ cond (nat_eq i a) (cond (nat_lt a j && nat_le j n) 1 0) 0
row-count n i j a =
    sum-map (λ q. cond (nat_eq i q.first && nat_eq j q.second) 1 0) (λ (k : ℕ). record { first = a; second = k }) (count_from (a + 1) (n - a))
    ∙ row-by (nat_eq i a) j (count_from (a + 1) (n - a))
    ∙ ap (λ k. cond (nat_eq i a) k 0) (within-count a n j)

engine-is : (n i : ℕ) → 1 ≤ i → i ≤ n → is_engine n i ≡ true
engine-is n i low high = grind (arith, nat_tests)

engine-not : (n i : ℕ) → n < i → is_engine n i ≡ false
engine-not n i beyond = grind (arith, nat_tests)

engine-zero : (n i : ℕ) → i < 1 → is_engine n i ≡ false
engine-zero n i low = grind (arith, nat_tests)

number-count : (f : ℕ → ℕ) (n i : ℕ) → sum_by (λ a. cond (nat_eq i a) (f a) 0) (numbers n) ≡ cond (is_engine n i) (f i) 0
number-count f n i = elim (cases_lt i 1) [
  | inl low ↦ below f i n 1 low ∙ sym (ap (λ t. cond t (f i) 0) (engine-zero n i low))
  | inr low ↦ elim (cases_lt n i) [
    | inl beyond ↦ outside f i n 1 (omega (arith, beyond)) ∙ sym (ap (λ t. cond t (f i) 0) (engine-not n i beyond))
    | inr high ↦ one-of f i n 1 (record { low = low; high = omega (arith, high) }) ∙ sym (ap (λ t. cond t (f i) 0) (engine-is n i low high))
  ]
]

all-count : (n i j : ℕ) → pair_count i j (all_pairs n) ≡ cond (is_engine n i) (cond (nat_lt i j && nat_le j n) 1 0) 0
all-count n i j =
    count-flat (λ q. nat_eq i q.first && nat_eq j q.second) (pairs_of n) (numbers n)
    ∙ (λ x. sum_by (λ a. row-count n i j a x) (numbers n))
    ∙ number-count (λ a. cond (nat_lt a j && nat_le j n) 1 0) n i

meet-all : (n i j : ℕ) →
    cond (nat_le 1 i && nat_le i n) (cond (nat_lt i j && nat_le j n) 1 0) 0 + cond (nat_le 1 j && nat_le j n) (cond (nat_lt j i && nat_le i n) 1 0) 0
    ≡ cond ((nat_le 1 i && nat_le i n) && (nat_le 1 j && nat_le j n) && not (nat_eq i j) && true) 1 0
meet-all n i j = grind (arith, nat_tests)

meet-first : (n i j : ℕ) →
    cond (nat_eq i 1) (cond (nat_lt 1 j && nat_le j n) 1 0) 0 + cond (nat_eq j 1) (cond (nat_lt 1 i && nat_le i n) 1 0) 0
    ≡ cond ((nat_le 1 i && nat_le i n) && (nat_le 1 j && nat_le j n) && not (nat_eq i j) && (nat_eq i 1 || nat_eq j 1)) 1 0
meet-first n i j = grind (arith, nat_tests)

pairs-by : (gauntlet : Bool) (n i j : ℕ) →
    pair_count i j (if gauntlet then pairs_of n 1 else all_pairs n) + pair_count j i (if gauntlet then pairs_of n 1 else all_pairs n)
    ≡ cond (is_engine n i && is_engine n j && not (nat_eq i j) && (not gauntlet || nat_eq i 1 || nat_eq j 1)) 1 0
pairs-by true n i j = ap (λ k. k + pair_count j i (pairs_of n 1)) (row-count n i j 1) ∙ ap (λ k. cond (nat_eq i 1) (cond (nat_lt 1 j && nat_le j n) 1 0) 0 + k) (row-count n j i 1) ∙ meet-first n i j
pairs-by false n i j = ap (λ k. k + pair_count j i (all_pairs n)) (all-count n i j) ∙ ap (λ k. cond (is_engine n i) (cond (nat_lt i j && nat_le j n) 1 0) 0 + k) (all-count n j i) ∙ meet-all n i j

-- ---- games

two-by : (t x y u v : Bool) → 0 + cond (t && x && y) 1 0 + cond (t && u && v) 1 0 ≡ cond t (cond (x && y) 1 0 + cond (v && u) 1 0) 0
two-by true true true true true = refl
two-by true true true true false = refl
two-by true true true false true = refl
two-by true true true false false = refl
two-by true true false true true = refl
two-by true true false true false = refl
two-by true true false false true = refl
two-by true true false false false = refl
two-by true false y true true = refl
two-by true false y true false = refl
two-by true false y false true = refl
two-by true false y false false = refl
two-by false x y u v = refl

two-count : (f : Fixture) (o : ℕ) (q : Pair) →
    count_by (is_same f) (two_games o q)
    ≡ cond (nat_eq f.opening o) (cond (nat_eq f.white q.first && nat_eq f.black q.second) 1 0 + cond (nat_eq f.black q.first && nat_eq f.white q.second) 1 0) 0
two-count f o q = two-by (nat_eq f.opening o) (nat_eq f.white q.first) (nat_eq f.black q.second) (nat_eq f.white q.second) (nat_eq f.black q.first)

opening-by : (t : Bool) (f g : Pair → ℕ) (qs : List Pair) → sum_by (λ q. cond t (f q + g q) 0) qs ≡ cond t (sum_by f qs + sum_by g qs) 0
opening-by true f g qs = sym (sum-plus f g qs)
opening-by false f g qs = sum-zero qs

opening-count : (p : Plan) (f : Fixture) (o : ℕ) → count_by (is_same f) (games_from p o) ≡ cond (nat_eq f.opening o) (cond (do_meet p f.white f.black) 1 0) 0
opening-count p f o =
    count-flat (is_same f) (two_games o) (pairs p)
    ∙ (λ x. sum_by (λ q. two-count f o q x) (pairs p))
    ∙ opening-by (nat_eq f.opening o) (λ q. cond (nat_eq f.white q.first && nat_eq f.black q.second) 1 0) (λ q. cond (nat_eq f.black q.first && nat_eq f.white q.second) 1 0) (pairs p)
    ∙ ap (λ k. cond (nat_eq f.opening o) k 0) (pairs-by p.gauntlet p.engines f.white f.black)

is-below : (o n : ℕ) → o < n → nat_lt o n ≡ true
is-below o n low = grind (arith, nat_tests)

not-below : (o n : ℕ) → n ≤ o → nat_lt o n ≡ false
not-below o n past = grind (arith, nat_tests)

openings-count : (k o n : ℕ) → sum_by (λ a. cond (nat_eq o a) k 0) (count_from 0 n) ≡ cond (nat_lt o n) k 0
openings-count k o n = elim (cases_lt o n) [
  | inl low ↦ one-of (λ a. k) o n 0 (record { low = omega arith; high = omega (arith, low) }) ∙ sym (ap (λ t. cond t k 0) (is-below o n low))
  | inr past ↦ outside (λ a. k) o n 0 (omega (arith, past)) ∙ sym (ap (λ t. cond t k 0) (not-below o n past))
]

round-count : (p : Plan) (f : Fixture) → count_by (is_same f) (round_of p) ≡ cond (nat_lt f.opening p.openings) (cond (do_meet p f.white f.black) 1 0) 0
round-count p f =
    count-flat (is_same f) (games_from p) (count_from 0 p.openings)
    ∙ (λ x. sum_by (λ o. opening-count p f o x) (count_from 0 p.openings))
    ∙ openings-count (cond (do_meet p f.white f.black) 1 0) f.opening p.openings

rounds-by : (t u : Bool) (rounds : ℕ) → rounds * cond t (cond u 1 0) 0 ≡ cond (t && u) rounds 0
rounds-by true true rounds = omega arith
rounds-by true false rounds = omega arith
rounds-by false u rounds = omega arith

pub equally-often : EquallyOften
unfolding schedule
equally-often p f =
    count-flat (is_same f) (λ round. round_of p) (count_from 1 p.rounds)
    ∙ sum-same (λ round. count_by (is_same f) (round_of p)) (count_by (is_same f) (round_of p)) (count_from 1 p.rounds)
    (each-every (λ round. count_by (is_same f) (round_of p) ≡ count_by (is_same f) (round_of p)) (count_from 1 p.rounds) (λ round. refl))
    ∙ ap (λ k. k * count_by (is_same f) (round_of p)) (length-count_from p.rounds 1)
    ∙ ap (λ k. p.rounds * k) (round-count p f)
    ∙ rounds-by (nat_lt f.opening p.openings) (do_meet p f.white f.black) p.rounds
