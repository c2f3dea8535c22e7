-- How long a list of legal moves is, and how many lists of a few legal moves there are, by the
-- number of occupied places.
use Rattle.std.proofs.Common.{◌≡◌, ℕ, zero, suc, ◌+◌, ◌*◌, ◌^◌, ◌≤◌, ◌<◌, Bool, true, false, cond, not, List, [], ◌∷◌, ◌++◌, length, length-append, map, arith, lit<, Option, Some, None}
use Rattle.std.specs.List.{filter, flat_map, sum_by}
use Rattle.std.specs.FinMap.Entries.{put as put_entry, by_order}
use Rattle.std.specs.declared.cmp.Ordering.TheVariants.{Less, Equal, Greater}
use Rattle.std.proofs.lemmas.List.{length-map}
use Rattle.std.proofs.lemmas.List.Sums.{sum_by-cons}
use Rattle.std.proofs.Math.Nat.{pow-le-pow_right, pow-succ', mul-le-mul_right}
use Rattle.hive_model.specs.declared.places.Place.{Place}
use Rattle.hive_model.specs.declared.places.Spot.{Spot}
use Rattle.hive_model.specs.declared.places.Move.{Move}
use Rattle.hive_model.specs.declared.places.Move.TheVariants.{Pass, To}
use Rattle.hive_model.specs.Pieces.{all_pieces}
use Rattle.hive_model.specs.Places.{place_cmp, is_place, neighbours, origin}
use Rattle.hive_model.specs.Boards.{Stacks, places_of, spot_of, stack_at, set_stack, without_at, without, IsBoard}
use Rattle.hive_model.specs.Near.{placed_by, with_place, in_order, near}
use Rattle.hive_model.specs.Positions.{Position}
use Rattle.hive_model.specs.Legal.{is_legal_pair, is_over, pairs, or_pass, moves}
use Rattle.hive_model.specs.Games.{after_board, after}
use Rattle.hive_model.specs.Minimax.{lines}
use Rattle.hive_model.proofs.CountLaws.{places_few}
use Rattle.search_laws.proofs.NodesLaws.{lines-one, lines-next}

-- Lists

filter-few : {X : Type 0} (f : X → Bool) (xs : List X) → length (filter f xs) ≤ length xs
filter-few f [] = omega arith
filter-few f (x ∷ xs) =
    let rest = filter-few f xs in
    elim (f x) as (λ t. length (cond t (x ∷ filter f xs) (filter f xs)) ≤ length (x ∷ xs)) [ true ↦ omega (arith, rest) | false ↦ omega (arith, rest) ]

flat_map-few : {X A : Type 0} (f : X → List A) (k : ℕ) → ((x : X) → length (f x) ≤ k) → (xs : List X) → length (flat_map f xs) ≤ length xs * k
flat_map-few f k each [] = omega arith
flat_map-few f k each (x ∷ xs) =
    let all = length-append (f x) (flat_map f xs) in
    let rest = flat_map-few f k each xs in
    let one = each x in
    omega (arith, all, rest, one)

sum_by-few : {X : Type 0} (f : X → ℕ) (k : ℕ) → ((x : X) → f x ≤ k) → (xs : List X) → sum_by f xs ≤ length xs * k
sum_by-few f k each [] = omega arith
sum_by-few f k each (x ∷ xs) = omega (arith, sum_by-cons f x xs, sum_by-few f k each xs, each x)

-- Near places

with_place-few : (p : Place) (qs : List Place) → length (with_place p qs) ≤ length qs + 1
with_place-few p [] = omega arith
with_place-few p (q ∷ qs) =
    let rest = with_place-few p qs in
    elim (place_cmp p q) as (λ o. length (placed_by o p q qs (with_place p qs)) ≤ length (q ∷ qs) + 1) [
      | Less ↦ omega arith
      | Equal ↦ omega arith
      | Greater ↦ omega (arith, rest)
    ]

in_order-few : (ps : List Place) → length (in_order ps) ≤ length ps
in_order-few [] = omega arith
in_order-few (p ∷ ps) = omega (arith, with_place-few p (in_order ps), in_order-few ps)

-- there are at most as many near places as occupied places, their six neighbours each, and the
-- origin
near-few : (b : Stacks) → length (near b) ≤ 7 * length b + 1
near-few b =
    let ps = places_of b in
    let listed = in_order-few (origin ∷ ps ++ flat_map neighbours ps) in
    let both = length-append ps (flat_map neighbours ps) in
    let round = flat_map-few neighbours 6 (λ p. omega arith) ps in
    let same : length ps ≡ length b = length-map b (λ e. e.0) in
    omega (arith, listed, both, round, same)

-- Legal moves

-- there are at most as many pairs as pieces times near places
pairs-few : (p : Position) → length (pairs p) ≤ 28 * (7 * length p.board + 1)
unfolding pairs
pairs-few p =
    let each : (x : ℕ) → length (map (λ q. To x q) (filter (is_legal_pair p x) (near p.board))) ≤ 7 * length p.board + 1 =
    λ x. omega (arith, length-map (filter (is_legal_pair p x) (near p.board)) (λ q. To x q), filter-few (is_legal_pair p x) (near p.board), near-few p.board) in
    flat_map-few (λ x. map (λ q. To x q) (filter (is_legal_pair p x) (near p.board))) (7 * length p.board + 1) each all_pieces

or_pass-few : (ms : List Move) (k : ℕ) → length ms ≤ k → 1 ≤ k → length (or_pass ms) ≤ k
or_pass-few [] k h some = some
or_pass-few (m ∷ ms) k h some = h

pub moves-few : (p : Position) → length (moves p) ≤ 28 * (7 * length p.board + 1)
unfolding moves
moves-few p =
    elim (is_over p) as (λ t. length (cond t [] (or_pass (pairs p))) ≤ 28 * (7 * length p.board + 1)) [
      | true ↦ omega arith
      | false ↦ or_pass-few (pairs p) (28 * (7 * length p.board + 1)) (pairs-few p) (omega arith)
    ]

-- Boards after a move

put_entry-few : (p : Place) (xs : List ℕ) (b : Stacks) → length (put_entry place_cmp p xs b) ≤ length b + 1
put_entry-few p xs [] = omega arith
put_entry-few p xs (e ∷ b) =
    let rest = put_entry-few p xs b in
    elim (place_cmp p e.0) as (λ o. length (by_order o ((p, xs) ∷ e ∷ b) ((e.0, xs) ∷ b) (e ∷ put_entry place_cmp p xs b)) ≤ length (e ∷ b) + 1) [
      | Less ↦ omega arith
      | Equal ↦ omega arith
      | Greater ↦ omega (arith, rest)
    ]

set_stack-few : (b : Stacks) (p : Place) (xs : List ℕ) → length (set_stack b p xs) ≤ length b + 1
set_stack-few b p [] = omega (arith, filter-few (λ e. not (is_place p e.0)) b)
set_stack-few b p (x ∷ xs) = put_entry-few p (x ∷ xs) b

without_at-few : (b : Stacks) (s : Option Spot) → length (without_at b s) ≤ length b + 1
without_at-few b None = omega arith
without_at-few b (Some s) = set_stack-few b s.place _

after_board-few : (b : Stacks) (m : Move) → length (after_board b m) ≤ length b + 2
after_board-few b Pass = omega arith
after_board-few b (To x q) = omega (arith, put_entry-few q (stack_at (without b x) q ++ x ∷ []) (without b x), without_at-few b (spot_of b x))

-- a move leaves at most two places more
pub after-few : (p : Position) (m : Move) → length (after p m).board ≤ length p.board + 2
unfolding after
after-few p m = after_board-few p.board m

-- Lists of legal moves

pub lines-few : (n : ℕ) (p : Position) → length p.board + 2 * n ≤ 44 → lines p n ≤ 10000 ^ n
lines-few zero p few = omega (arith, lines-one p)
lines-few (suc n) p few =
    let each : (m : Move) → lines (after p m) n ≤ 10000 ^ n = λ m. let more = after-few p m in lines-few n (after p m) (omega (arith, more, few)) in
    let all : sum_by (λ m. lines (after p m) n) (moves p) ≤ length (moves p) * 10000 ^ n = sum_by-few (λ m. lines (after p m) n) (10000 ^ n) each (moves p) in
    let short : length (moves p) ≤ 10000 = omega (arith, moves-few p, few) in
    let wide : length (moves p) * 10000 ^ n ≤ 10000 * 10000 ^ n = mul-le-mul_right (10000 ^ n) short in
    let more : 10000 ^ suc n ≡ 10000 * 10000 ^ n = pow-succ' 10000 n in
    omega (arith, lines-next p n, all, wide, more)

-- which are counted in 128 bits up to 8 plies
pub lines-fit : (n : ℕ) (p : Position) → n ≤ 8 → length p.board + 2 * n ≤ 44 → lines p n < 2 ^ 128
lines-fit n p low few =
    let most : 10000 ^ n ≤ 10000 ^ 8 = pow-le-pow_right (lit< tt) low in
    let top : 10000 ^ 8 < 2 ^ 128 = lit< tt in
    omega (arith, lines-few n p few, most, top)

-- a sound board has few places
pub board-few : (b : Stacks) → IsBoard b → length b ≤ 28
board-few b is = omega (arith, places_few b is, length-map b (λ e. e.0))
