-- The pairs of engines by their places.
use Rattle.std.proofs.Common.{◌≡◌, ℕ, zero, suc, ◌+◌, ◌-◌, ◌*◌, ◌/◌, ◌<◌, ◌≤◌, true, false, cond, List, ◌++◌, length, Some, refl, ap, arith, ◌∙◌}
use Rattle.std.specs.Prelude.{slice_get}
use Rattle.std.specs.List.{flat_map}
use Rattle.std.specs.Option.{option_map}
use Rattle.std.proofs.lemmas.List.{length-append, length-map}
use Rattle.std.proofs.lemmas.Option.{slice_get-map}
use Rattle.hive_model.specs.Lists.{count_from}
use Rattle.hive_model.proofs.GetLemmas.{get_in_front, get-count_from, length-count_from}
use Rattle.tournament_core.specs.declared.pairs.Pair.{Pair}
use Rattle.tournament_core.specs.declared.plan.Plan.{Plan}
use Rattle.tournament_core.specs.Schedules.{pairs_of, all_pairs, pairs}
use Rattle.tournament_core.proofs.Numbers.{count-next}
use Rattle.tournament_core.proofs.Flats.{get-behind}

pub length-pairs_of : (n i : ℕ) → length (pairs_of n i) ≡ n - i
length-pairs_of n i = length-map (count_from (i + 1) (n - i)) (λ j. record { first = i; second = j }) ∙ length-count_from (n - i) (i + 1)

pub get-pairs_of : (n i k : ℕ) → k < n - i → slice_get (pairs_of n i) k ≡ Some (record { first = i; second = i + 1 + k })
get-pairs_of n i k low =
    slice_get-map (λ j. record { first = i; second = j }) (count_from (i + 1) (n - i)) k
    ∙ ap (option_map (λ (j : ℕ). record { first = i; second = j })) (get-count_from (n - i) (i + 1) k low)

-- the pairs with one of the last k engines as the first engine
pairs-double : (n k i : ℕ) → i + k ≡ n + 1 → 2 * length (flat_map (pairs_of n) (count_from i k)) + k ≡ k * k
pairs-double n zero i all = refl
pairs-double n (suc k) i all =
    let rest = pairs-double n k (i + 1) (omega (arith, all)) in
    let row : length (pairs_of n i) ≡ k = length-pairs_of n i ∙ omega (arith, all) in
    let both = length-append (pairs_of n i) (flat_map (pairs_of n) (count_from (i + 1) k)) in
    let square : suc k * suc k ≡ k * k + 2 * k + 1 = omega arith in
    omega (arith, rest, row, both, square)

half-of : (n long : ℕ) → 2 * long + n ≡ n * n → n * (n - 1) / 2 ≡ long
half-of zero long all = omega (arith, all)
half-of (suc m) long all =
    let less : suc m - 1 ≡ m = omega arith in
    let square : suc m * suc m ≡ m * m + 2 * m + 1 = omega arith in
    let twice : suc m * m ≡ m * m + m = omega arith in
    ap (λ k. suc m * k / 2) less ∙ omega (arith, all, square, twice)

pub length-all_pairs : (n : ℕ) → n * (n - 1) / 2 ≡ length (all_pairs n)
length-all_pairs n = half-of n (length (all_pairs n)) (pairs-double n n 1 (omega arith))

-- ---- the loop that looks for a place

-- the pairs with a first engine of this number or a higher one
abbrev pub pairs_left : ℕ → ℕ → List Pair
pairs_left n b = flat_map (pairs_of n) (count_from b (n + 1 - b))

pub pairs-begin : (n : ℕ) → all_pairs n ≡ pairs_left n 1
pairs-begin n = let all : n ≡ n + 1 - 1 = omega arith in ap (λ k. flat_map (pairs_of n) (count_from 1 k)) all

pairs-next : (n b : ℕ) → b < n → pairs_left n b ≡ pairs_of n b ++ pairs_left n (b + 1)
pairs-next n b low = ap (flat_map (pairs_of n)) (count-next n b (omega (arith, low)))

pub pair-here : (n b k : ℕ) → b < n → k < n - b → slice_get (pairs_left n b) k ≡ Some (record { first = b; second = b + 1 + k })
pair-here n b k low within =
    ap (λ ps. slice_get ps k) (pairs-next n b low)
    ∙ get_in_front (pairs_of n b) (pairs_left n (b + 1)) k (record { first = b; second = b + 1 + k }) (get-pairs_of n b k within)

pub pair-further : (n b k : ℕ) → b < n → n - b ≤ k → slice_get (pairs_left n b) k ≡ slice_get (pairs_left n (b + 1)) (k - (n - b))
pair-further n b k low past =
    let long = length-pairs_of n b in
    let place : k ≡ length (pairs_of n b) + (k - (n - b)) = omega (arith, long, past) in
    ap (λ ps. slice_get ps k) (pairs-next n b low)
    ∙ ap (slice_get (pairs_of n b ++ pairs_left n (b + 1))) place
    ∙ get-behind (pairs_of n b) (pairs_left n (b + 1)) (k - (n - b))

pub length-further : (n b : ℕ) → b < n → length (pairs_left n b) ≡ n - b + length (pairs_left n (b + 1))
length-further n b low =
    ap (length {A = Pair}) (pairs-next n b low)
    ∙ length-append (pairs_of n b) (pairs_left n (b + 1))
    ∙ ap (λ k. k + length (pairs_left n (b + 1))) (length-pairs_of n b)

-- ---- the pairs of a plan

pub pairs-gauntlet : (p : Plan) → p.gauntlet ≡ true → pairs p ≡ pairs_of p.engines 1
pairs-gauntlet p is = ap (λ t. cond t (pairs_of p.engines 1) (all_pairs p.engines)) is

pub pairs-all : (p : Plan) → p.gauntlet ≡ false → pairs p ≡ all_pairs p.engines
pairs-all p is = ap (λ t. cond t (pairs_of p.engines 1) (all_pairs p.engines)) is
