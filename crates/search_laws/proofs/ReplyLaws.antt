-- The values of the moves of a position as a list, and the plays that are left at a root.
use Rattle.std.proofs.Common.{◌≡◌, ℕ, zero, suc, ◌+◌, ◌-◌, ◌<◌, ◌≤◌, List, [], ◌∷◌, length, map, sym, ap, arith, ◌∙◌, ℤ, pos, negsuc, ◌-ℤ◌, ◌≤ℤ◌, Some, inl, inr, ◌⊎◌, ⊎_elim, refl}
use Rattle.std.proofs.lemmas.Int.{ints, clamps, by_lt_z}
use Rattle.std.proofs.lemmas.List.{length-map}
use Rattle.std.specs.Int.{int_max}
use Rattle.std.specs.List.{slice_get}
use Rattle.hive_model.specs.declared.places.Move.{Move}
use Rattle.hive_model.specs.Positions.{Position}
use Rattle.hive_model.specs.Legal.{moves}
use Rattle.hive_model.specs.Games.{after}
use Rattle.hive_model.specs.Minimax.{IsInner, value, reply_value, replies, greatest_from, greatest}
use Rattle.hive_model.specs.Costs.{root_cost}
use Rattle.search_laws.specs.Laws.{IsSmall}
use Rattle.search_laws.proofs.MinimaxLaws.{IsSmall-neg, wider, value-within, value-greatest, moves-not_over}
use Rattle.search_laws.proofs.Greatest.{greatest_from-start}
use Rattle.search_laws.proofs.CostLaws.{cost-falls}
use Rattle.search_laws.proofs.RootLaws.{root_tried}

list-each : (xs : List ℤ) (i : ℕ) (x a : ℤ) → slice_get xs i ≡ Some x → x ≤ℤ greatest_from a xs
list-each [] i x a e = absurd (cc)
list-each (y ∷ ys) zero x a e =
    let k : int_max a y ≤ℤ greatest_from (int_max a y) ys = greatest_from-start (int_max a y) ys in
    let same : y ≡ x = cc in
    omega (arith, ints, clamps, same)
list-each (y ∷ ys) (suc i) x a e = list-each ys i x (int_max a y) e

-- no number of a list is greater than its greatest
pub greatest-list : (xs : List ℤ) (i : ℕ) (x : ℤ) → slice_get xs i ≡ Some x → x ≤ℤ greatest xs
greatest-list [] i x e = absurd (cc)
greatest-list (y ∷ ys) zero x e =
    let k : y ≤ℤ greatest_from y ys = greatest_from-start y ys in
    let same : y ≡ x = cc in
    omega (arith, ints, same)
greatest-list (y ∷ ys) (suc i) x e = list-each ys i x y e

greatest_from-there : (a : ℤ) (xs : List ℤ) → (greatest_from a xs ≡ a) ⊎ ((i : ℕ) × (slice_get xs i ≡ Some (greatest_from a xs)))
greatest_from-there a [] = inl refl
greatest_from-there a (x ∷ xs) = ⊎_elim
    (λ (h : greatest_from (int_max a x) xs ≡ int_max a x). by_lt_z a x
    (λ less. inr (0, let e : x ≡ greatest_from (int_max a x) xs = omega (arith, ints, clamps, h) in ap (λ (z : ℤ). Some z) e))
    (λ more. inl (omega (arith, ints, clamps, h))))
    (λ (h : (i : ℕ) × (slice_get xs i ≡ Some (greatest_from (int_max a x) xs))). inr (suc h.0, h.1))
    (greatest_from-there (int_max a x) xs)

-- the greatest of a list is one of it
pub greatest-there : (xs : List ℤ) → 0 < length xs → (i : ℕ) × (slice_get xs i ≡ Some (greatest xs))
greatest-there [] some = absurd (omega arith)
greatest-there (x ∷ xs) some = ⊎_elim
    (λ (h : greatest_from x xs ≡ x). (0, ap (λ (z : ℤ). Some z) (sym h)))
    (λ (h : (i : ℕ) × (slice_get xs i ≡ Some (greatest_from x xs))). (suc h.0, h.1))
    (greatest_from-there x xs)

-- ---- the moves of a position

-- no move has a greater value than the position
pub reply-most : (p : Position) (d i : ℕ) (n : ℤ) → IsInner p d → slice_get (replies p (d - 1)) i ≡ Some n → n ≤ℤ value p d
reply-most p d i n inner e =
    let k : n ≤ℤ greatest (replies p (d - 1)) = greatest-list (replies p (d - 1)) i n e in
    omega (arith, ints, k, value-greatest p d inner)

-- some move has the value of the position
pub top-there : (p : Position) (d : ℕ) → IsInner p d → (i : ℕ) × (slice_get (replies p (d - 1)) i ≡ Some (value p d))
top-there p d inner =
    let long = length-map (moves p) (reply_value p (d - 1)) in
    let any = moves-not_over p inner.open_ in
    let g = greatest-there (replies p (d - 1)) (omega (arith, long, any)) in
    (g.0, g.1 ∙ ap (λ (z : ℤ). Some z) (sym (value-greatest p d inner)))

pub reply-at : (f : Move → ℤ) (ms : List Move) (i : ℕ) (m : Move) → slice_get ms i ≡ Some m → slice_get (map f ms) i ≡ Some (f m)
reply-at f [] i m e = absurd (cc)
reply-at f (x ∷ ms) zero m e = let same : x ≡ m = cc in ap (λ (y : Move). Some (f y)) same
reply-at f (x ∷ ms) (suc i) m e = reply-at f ms i m e

within-at : (p : Position) (d : ℕ) → d ≤ 64 → (ms : List Move) (i : ℕ) (n : ℤ) → slice_get (map (reply_value p (d - 1)) ms) i ≡ Some n → IsSmall 1000063 n
within-at p d deep [] i n e = absurd (cc)
within-at p d deep (m ∷ ms) zero n e =
    let same : reply_value p (d - 1) m ≡ n = cc in
    let w = IsSmall-neg 1000063 (value (after p m) (d - 1)) (wider (1000000 + (d - 1)) 1000063 (value (after p m) (d - 1)) (omega arith) (value-within (after p m) (d - 1))) in
    rw same at w
within-at p d deep (m ∷ ms) (suc i) n e = within-at p d deep ms i n e

-- how large the value of a move is
pub reply-small : (p : Position) (d i : ℕ) (n : ℤ) → d ≤ 64 → slice_get (replies p (d - 1)) i ≡ Some n → IsSmall 1000063 n
reply-small p d i n deep e = within-at p d deep (moves p) i n e

-- ---- the plays at a root, if the best value so far is at least g

tried-falls : (p : Position) (d : ℕ) (m : Move) (g h : ℤ) → g ≤ℤ h → root_tried p d m h ≤ root_tried p d m g
tried-falls p d m g h more =
    let k = cost-falls (after p m) (d - 1) (negsuc 1000099) (negsuc 1000099) (pos 1 -ℤ g) (pos 1 -ℤ h) (omega (arith, ints)) (omega (arith, ints)) in
    omega arith

pub root_cost-falls : (p : Position) (d : ℕ) (ms : List Move) (g h : ℤ) → g ≤ℤ h
    → root_cost (root_tried p d) (reply_value p (d - 1)) h ms ≤ root_cost (root_tried p d) (reply_value p (d - 1)) g ms
root_cost-falls p d [] g h more = omega arith
root_cost-falls p d (m ∷ ms) g h more =
    let first = tried-falls p d m g h more in
    let rest = root_cost-falls p d ms (int_max g (reply_value p (d - 1) m)) (int_max h (reply_value p (d - 1) m)) (omega (arith, ints, clamps)) in
    omega (arith, first, rest)
