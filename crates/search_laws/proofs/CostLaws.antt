-- Laws of the plays that a search may make.
use Rattle.std.proofs.Common.{◌≡◌, ℕ, zero, suc, ◌+◌, ◌-◌, ◌≤◌, Bool, true, false, cond, List, [], ◌∷◌, drop, refl, ap, arith, ℤ, neg_ℤ, ◌≤ℤ◌, ◌<ℤ◌, int_le, Some}
use Rattle.std.proofs.lemmas.Int.{ints, clamps}
use Rattle.std.specs.List.{slice_get}
use Rattle.std.specs.Int.{int_max}
use Rattle.hive_model.specs.declared.places.Move.{Move}
use Rattle.hive_model.specs.Positions.{Position}
use Rattle.hive_model.specs.Legal.{moves, is_over}
use Rattle.hive_model.specs.Games.{after}
use Rattle.hive_model.specs.Minimax.{IsInner, reply_value}
use Rattle.hive_model.specs.Costs.{tries_cost, most_by, cost}
use Rattle.search_laws.specs.Tries.{tried_cost}
use Rattle.search_laws.proofs.LoopLaws.{drop-at}

pub cost-inner : (p : Position) (d : ℕ) (a b : ℤ) → IsInner p d →
    cost p d a b ≡ tries_cost (tried_cost p (d - 1) b) (reply_value p (d - 1)) a b (moves p) + most_by (λ m. tried_cost p (d - 1) b m a) (moves p)
unfolding cost
cost-inner p zero a b inner = absurd (omega (arith, inner.deep))
cost-inner p (suc d) a b inner =
    let e : suc d - 1 ≡ d = omega arith in
    rw (inner.open_, e) refl

pub int_le-false : (b x : ℤ) → x <ℤ b → int_le b x ≡ false
int_le-false b x h = grind (arith, ints)

pub int_le-true : (b x : ℤ) → b ≤ℤ x → int_le b x ≡ true
int_le-true b x h = grind (arith, ints)

-- one move more is tried, and it does not reach b
pub tries-step : (tried : Move → ℤ → ℕ) (r : Move → ℤ) (a b : ℤ) (ms : List Move) (i : ℕ) (m : Move) → slice_get ms i ≡ Some m → r m <ℤ b →
    tries_cost tried r a b (drop i ms) ≡ tried m a + tries_cost tried r (int_max a (r m)) b (drop (i + 1) ms)
tries-step tried r a b ms i m e below =
    rw (drop-at ms i m e) (ap (λ t. tried m a + cond t 0 (tries_cost tried r (int_max a (r m)) b (drop (i + 1) ms))) (int_le-false b (r m) below))

pub tries-first : (tried : Move → ℤ → ℕ) (r : Move → ℤ) (a b : ℤ) (ms : List Move) (i : ℕ) (m : Move) → slice_get ms i ≡ Some m →
    tried m a ≤ tries_cost tried r a b (drop i ms)
tries-first tried r a b ms i m e = rw (drop-at ms i m e) (omega arith)

-- ---- the cost does not rise with a and does not fall with b

abbrev pub TriedFalls : (Move → ℤ → ℕ) → (Move → ℤ → ℕ) → Type 0
TriedFalls wide narrow = (m : Move) (low low' : ℤ) → low ≤ℤ low' → narrow m low' ≤ wide m low

cond-falls : (t t' : Bool) (x y n w : ℕ) → (t ≡ true → t' ≡ true) → n ≤ w → x ≤ y → n + cond t' 0 x ≤ w + cond t 0 y
cond-falls true true x y n w h l k = omega arith
cond-falls true false x y n w h l k = let f : false ≡ true = h refl in cc
cond-falls false true x y n w h l k = omega arith
cond-falls false false x y n w h l k = omega arith

cond-keeps : (t : Bool) (x y : ℕ) → x ≤ y → cond t 0 x ≤ cond t 0 y
cond-keeps true x y k = omega arith
cond-keeps false x y k = k

int_le-wider : (b b' x : ℤ) → b' ≤ℤ b → int_le b x ≡ true → int_le b' x ≡ true
int_le-wider b b' x h e = grind (arith, ints)

int_max-keeps : (a a' x : ℤ) → a ≤ℤ a' → int_max a x ≤ℤ int_max a' x
int_max-keeps a a' x h = omega (arith, ints, clamps)

neg-turns : (a b : ℤ) → a ≤ℤ b → neg_ℤ b ≤ℤ neg_ℤ a
neg-turns a b h = omega (arith, ints)

pub tries-falls : (wide narrow : Move → ℤ → ℕ) (r : Move → ℤ) (a a' b b' : ℤ) (ms : List Move) → TriedFalls wide narrow → a ≤ℤ a' → b' ≤ℤ b →
    tries_cost narrow r a' b' ms ≤ tries_cost wide r a b ms
tries-falls wide narrow r a a' b b' [] falls ha hb = omega arith
tries-falls wide narrow r a a' b b' (m ∷ ms) falls ha hb =
    cond-falls (int_le b (r m)) (int_le b' (r m)) _ _ _ _ (int_le-wider b b' (r m) hb) (falls m a a' ha)
    (tries-falls wide narrow r (int_max a (r m)) (int_max a' (r m)) b b' ms falls (int_max-keeps a a' (r m) ha) hb)

most-falls : (f g : Move → ℕ) (ms : List Move) → ((m : Move) → g m ≤ f m) → most_by g ms ≤ most_by f ms
most-falls f g [] h = omega arith
most-falls f g (m ∷ ms) h = omega (arith, h m, most-falls f g ms h)

pub cost-falls : (p : Position) (d : ℕ) (a a' b b' : ℤ) → a ≤ℤ a' → b' ≤ℤ b → cost p d a' b' ≤ cost p d a b
unfolding cost
cost-falls p zero a a' b b' ha hb = omega arith
cost-falls p (suc d) a a' b b' ha hb =
    let wide : Move → ℤ → ℕ = λ m low. 1 + cost (after p m) d (neg_ℤ b) (neg_ℤ low) in
    let narrow : Move → ℤ → ℕ = λ m low. 1 + cost (after p m) d (neg_ℤ b') (neg_ℤ low) in
    let falls : TriedFalls wide narrow = λ m low low' h.
    omega (arith, cost-falls (after p m) d (neg_ℤ b) (neg_ℤ b') (neg_ℤ low) (neg_ℤ low') (neg-turns b' b hb) (neg-turns low low' h)) in
    let tries : tries_cost narrow (reply_value p d) a' b' (moves p) ≤ tries_cost wide (reply_value p d) a b (moves p) =
    tries-falls wide narrow (reply_value p d) a a' b b' (moves p) falls ha hb in
    let first : most_by (λ m. narrow m a') (moves p) ≤ most_by (λ m. wide m a) (moves p) =
    most-falls (λ m. wide m a) (λ m. narrow m a') (moves p) (λ m. falls m a a' ha) in
    cond-keeps (is_over p) _ _ (omega (arith, tries, first))
