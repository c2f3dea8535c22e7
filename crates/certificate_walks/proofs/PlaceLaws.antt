-- The place of a move in a list, and the moves before and after it.
use Rattle.std.proofs.Common.{◌≡◌, ℕ, zero, suc, ◌+◌, ◌<◌, ◌≤◌, Bool, true, false, cond, List, [], ◌∷◌, ◌++◌, length, take, drop, refl, sym, ap, arith, ◌∙◌, Some, None, inl, inr}
use Rattle.std.specs.List.{slice_get, position_from}
use Rattle.std.proofs.lemmas.Bool.{and_parts, and_from, eqb-true, eq-eqb}
use Rattle.std.specs.Prelude.{Option, nat_eq}
use Rattle.hive_model.specs.declared.places.Move.{Move}
use Rattle.hive_model.specs.declared.places.Move.TheVariants.{Pass, To}
use Rattle.hive_model.specs.Lists.{IsOn}
use Rattle.hive_model.specs.Places.{is_place}
use Rattle.hive_model.specs.Histories.{is_move}
use Rattle.hive_model.proofs.PlaceLemmas.{same_place, is_place_itself}
use Rattle.hive_model.specs.Positions.{Position}
use Rattle.hive_model.specs.Legal.{moves}
use Rattle.hive_model.specs.Stack.{Levels, level_of, with_level}
use Rattle.search_laws.proofs.LoopLaws.{drop-at, drop-all, level_of-with_level}
use Rattle.certificate_walks.specs.Limits.{Each}
use Rattle.certificate_walks.specs.Walks.{place_of}

pub is_move-same : (m n : Move) → is_move m n ≡ true → n ≡ m
is_move-same Pass Pass h = refl
is_move-same Pass (To x q) h = absurd (cc)
is_move-same (To x q) Pass h = absurd (cc)
is_move-same (To x q) (To y r) h =
    let parts = and_parts (nat_eq x y) (is_place q r) h in
    let piece = eqb-true x y parts.0 in
    let place = same_place q r parts.1 in
    λ i. To (sym piece i) (sym place i)

pub is_move-itself : (m : Move) → is_move m m ≡ true
is_move-itself Pass = refl
is_move-itself (To x q) = and_from (nat_eq x x) (is_place q q) (eq-eqb x x refl) (is_place-itself q) where
  is_place-itself : (q : _) → is_place q q ≡ true
  is_place-itself q = is_place_itself q

module _ {X : Type 0} (t : X → Bool) where
  pub position-at : (j : ℕ) (xs : List X) (k : ℕ) → position_from t j xs ≡ Some k → (i : ℕ) × (x : X) × (k ≡ j + i) × (slice_get xs i ≡ Some x) × (t x ≡ true)
  position-at j [] k e = cc
  position-at j (x ∷ xs) k e =
      elim (t x) as (λ b. t x ≡ b → cond b (Some j) (position_from t (j + 1) xs) ≡ Some k → (i : ℕ) × (y : X) × (k ≡ j + i) × (slice_get (x ∷ xs) i ≡ Some y) × (t y ≡ true)) [
        | true ↦ λ passes h. let same : j ≡ k = cc in (0, x, omega (arith, same), refl, passes)
        | false ↦ λ fails h. let later = position-at (j + 1) xs k h in (suc later.0, later.1, omega (arith, later.2), later.3, later.4)
      ] refl e

  -- an element that passes has a first one that does, at its place or before it
  pub position-first : (j : ℕ) (xs : List X) (i : ℕ) (x : X) → slice_get xs i ≡ Some x → t x ≡ true → (k : ℕ) × (position_from t j xs ≡ Some (j + k)) × (k ≤ i)
  position-first j [] i x e passes = cc
  position-first j (y ∷ xs) zero x e passes =
      let same : y ≡ x = cc in
      let here : j ≡ j + 0 = omega arith in
      (0, rw (ap t same ∙ passes) (ap (λ n. Some n) here), omega arith)
  position-first j (y ∷ xs) (suc i) x e passes =
      let later = position-first (j + 1) xs i x e passes in
      let next : j + 1 + later.0 ≡ j + suc later.0 = omega arith in
      let here : j ≡ j + 0 = omega arith in
      elim (t y) as (λ b. (k : ℕ) × (cond b (Some j) (position_from t (j + 1) xs) ≡ Some (j + k)) × (k ≤ suc i)) [
        | true ↦ (0, ap (λ n. Some n) here, omega arith)
        | false ↦ (suc later.0, later.1 ∙ ap (λ n. Some n) next, omega (arith, later.2))
      ]

-- the move is at the place that was found
pub place-here : (m : Move) (ms : List Move) (k : ℕ) → place_of m ms ≡ Some k → slice_get ms k ≡ Some m
place-here m ms k e =
    let f = position-at (is_move m) 0 ms k e in
    let at : f.0 ≡ k = omega (arith, f.2) in
    let same : f.1 ≡ m = is_move-same m f.1 f.4 in
    ap (slice_get ms) (sym at) ∙ f.3 ∙ ap (λ n. Some n) same

pub place-first : (m : Move) (ms : List Move) (i : ℕ) → slice_get ms i ≡ Some m → (k : ℕ) × (place_of m ms ≡ Some k) × (k ≤ i)
place-first m ms i e =
    let f = position-first (is_move m) 0 ms i m e (is_move-itself m) in
    let at : 0 + f.0 ≡ f.0 = omega arith in
    (f.0, f.1 ∙ ap (λ n. Some n) at, f.2)

-- the moves before a place, the move there, and the moves after it
pub split-at : {A : Type 0} (xs : List A) (k : ℕ) (x : A) → slice_get xs k ≡ Some x → xs ≡ take k xs ++ x ∷ drop (k + 1) xs
split-at [] k x e = cc
split-at (y ∷ xs) zero x e = let same : y ≡ x = cc in ap (λ z. z ∷ xs) same
split-at (y ∷ xs) (suc k) x e = let next : suc k + 1 ≡ suc (k + 1) = omega arith in rw next (ap (λ zs. y ∷ zs) (split-at xs k x e))

pub on-before : {A : Type 0} (k : ℕ) (xs : List A) (x : A) → IsOn (take k xs) x → IsOn xs x
on-before zero xs x on = absurd on
on-before (suc k) [] x on = absurd on
on-before (suc k) (y ∷ xs) x on = elim on [ inl same ↦ inl same | inr later ↦ inr (on-before k xs x later) ]

pub on-behind : {A : Type 0} (k : ℕ) (xs : List A) (x : A) → IsOn (drop k xs) x → IsOn xs x
on-behind zero xs x on = on
on-behind (suc k) [] x on = absurd on
on-behind (suc k) (y ∷ xs) x on = inr (on-behind k xs x on)

pub Each-weaker : {A : Type 0} (P Q : A → Type 0) → ((x : A) → P x → Q x) → (xs : List A) → Each P xs → Each Q xs
Each-weaker P Q h [] all = tt
Each-weaker P Q h (x ∷ xs) all = (h x all.0, Each-weaker P Q h xs all.1)

pub Each-append : {A : Type 0} (P : A → Type 0) (xs ys : List A) → Each P xs → Each P ys → Each P (xs ++ ys)
Each-append P [] ys a b = b
Each-append P (x ∷ xs) ys a b = (a.0, Each-append P xs ys a.1 b)

-- a fact for each place below k is one for each element before k
pub Each-before : {A : Type 0} (P : A → Type 0) (k : ℕ) (xs : List A) → ((j : ℕ) (x : A) → j < k → slice_get xs j ≡ Some x → P x) → Each P (take k xs)
Each-before P zero xs h = tt
Each-before P (suc k) [] h = tt
Each-before P (suc k) (x ∷ xs) h = (h 0 x (omega arith) refl, Each-before P k xs (λ j y low e. h (suc j) y (omega arith) e))

pub Each-of : {A : Type 0} (P : A → Type 0) (xs : List A) → ((j : ℕ) (x : A) → slice_get xs j ≡ Some x → P x) → Each P xs
Each-of P [] h = tt
Each-of P (x ∷ xs) h = (h 0 x refl, Each-of P xs (λ j y e. h (suc j) y e))

pub Each-behind : {A : Type 0} (P : A → Type 0) (k : ℕ) (xs : List A) → Each P xs → Each P (drop k xs)
Each-behind P zero xs all = all
Each-behind P (suc k) [] all = tt
Each-behind P (suc k) (x ∷ xs) all = Each-behind P k xs all.1

-- ---- the place as code finds it

other-move : (m n : Move) → (m ≡ n → ⊥) → is_move m n ≡ false
other-move m n other =
    elim (is_move m n) as (λ b. is_move m n ≡ b → b ≡ false) [
      | true ↦ λ e. absurd (other (sym (is_move-same m n e)))
      | false ↦ λ e. refl
    ] refl

-- the place is that among the moves from i on
pub place-step : (m : Move) (ms : List Move) (i : ℕ) (n : Move) → place_of m ms ≡ position_from (is_move m) i (drop i ms) → slice_get ms i ≡ Some n → (m ≡ n → ⊥) →
    place_of m ms ≡ position_from (is_move m) (i + 1) (drop (i + 1) ms)
place-step m ms i n so here other = so ∙ ap (position_from (is_move m) i) (drop-at ms i n here) ∙ ap (λ b. cond b (Some i) (position_from (is_move m) (i + 1) (drop (i + 1) ms))) (other-move m n other)

pub place-met : (m : Move) (ms : List Move) (i : ℕ) (n : Move) → place_of m ms ≡ position_from (is_move m) i (drop i ms) → slice_get ms i ≡ Some n → m ≡ n → Some i ≡ place_of m ms
place-met m ms i n so here same =
    let e : is_move m n ≡ true = ap (is_move m) (sym same) ∙ is_move-itself m in
    sym (so ∙ ap (position_from (is_move m) i) (drop-at ms i n here) ∙ ap (λ b. cond b (Some i) (position_from (is_move m) (i + 1) (drop (i + 1) ms))) e)

pub place-none : (m : Move) (ms : List Move) (i : ℕ) → place_of m ms ≡ position_from (is_move m) i (drop i ms) → length ms ≤ i → None ≡ place_of m ms
place-none m ms i so past = sym (so ∙ ap (position_from (is_move m) i) (drop-all ms i past))

-- the place in the level is the place in the list of moves
pub place-listed : (old s : Levels) (p : Position) (level : ℕ) (m : Move) (found place : Option ℕ) → s ≡ with_level old (moves p) → level ≡ length old.lists →
    found ≡ place_of m (level_of s level) → found ≡ place → place ≡ place_of m (moves p)
place-listed old s p level m found place put on looked is = sym is ∙ looked ∙ ap (place_of m) (level_of-with_level s old (moves p) level put on)
