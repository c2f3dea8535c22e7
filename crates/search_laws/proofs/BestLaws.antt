-- The best move is the first of those with the greatest value.
use Rattle.std.proofs.Common.{◌≡◌, ℕ, zero, suc, ◌-◌, ◌<◌, Bool, true, false, cond, List, [], ◌∷◌, length, map, option_map, refl, sym, ap, arith, ◌∙◌, ℤ, ◌≤ℤ◌, ◌<ℤ◌, int_le, Some, inl, inr, ◌⊎◌}
use Rattle.std.proofs.lemmas.Int.{ints, clamps, by_lt_z}
use Rattle.std.proofs.lemmas.Option.{slice_get-map}
use Rattle.std.specs.List.{slice_get, find}
use Rattle.std.specs.Int.{int_max}
use Rattle.hive_model.specs.declared.places.Move.{Move}
use Rattle.hive_model.specs.Positions.{Position}
use Rattle.hive_model.specs.Legal.{moves}
use Rattle.hive_model.specs.Minimax.{IsInner, IsBest, IsFirstGreatest, value, reply_value, greatest_from, greatest, best}
use Rattle.search_laws.proofs.Greatest.{greatest-each}
use Rattle.search_laws.proofs.MinimaxLaws.{value-greatest, moves-not_over}

-- whether a move has the value of the position
abbrev pub reaches : Position → ℕ → Move → Bool
reaches p d m = int_le (value p d) (reply_value p (d - 1) m)

-- the best move is the first that has the value of the position
pub best-reaches : (p : Position) (d : ℕ) → IsInner p d → best p d ≡ find (reaches p d) (moves p)
unfolding best
best-reaches p d inner = ap (λ g. find (λ m. int_le g (reply_value p (d - 1) m)) (moves p)) (sym (value-greatest p d inner))

-- ---- the first of a list that passes a test

pub record IsFirst (test : Move → Bool) (ms : List Move) (i : ℕ) (m : Move) : Type 0 where
  pub here : slice_get ms i ≡ Some m
  pub passes : test m ≡ true
  pub first : (j : ℕ) (n : Move) → j < i → slice_get ms j ≡ Some n → test n ≡ false

first-later : (test : Move → Bool) (n : Move) (ms : List Move) (i : ℕ) (m : Move) → test n ≡ false → IsFirst test ms i m → IsFirst test (n ∷ ms) (suc i) m
first-later test n ms i m t f = record {
  here = f.here;
  passes = f.passes;
  first = λ j k low e. earlier j k low e;
} where
  earlier : (j : ℕ) (k : Move) → j < suc i → slice_get (n ∷ ms) j ≡ Some k → test k ≡ false
  earlier zero k low e = let same : n ≡ k = cc in ap test (sym same) ∙ t
  earlier (suc j) k low e = f.first j k (omega arith) e

found-first : (test : Move → Bool) (ms : List Move) (m : Move) → find test ms ≡ Some m → (i : ℕ) × IsFirst test ms i m
found-first test [] m e = cc
found-first test (n ∷ ms) m e =
    elim (test n) as (λ t. test n ≡ t → cond t (Some n) (find test ms) ≡ Some m → (i : ℕ) × IsFirst test (n ∷ ms) i m) [
      | true ↦ λ t h. let same : n ≡ m = cc in
          (0, record { here = ap Some same; passes = ap test (sym same) ∙ t; first = λ j k low eq. absurd (omega (arith, low)) })
      | false ↦ λ t h. let later = found-first test ms m h in (suc later.0, first-later test n ms later.0 m t later.1)
    ] refl e

first-found : (test : Move → Bool) (ms : List Move) (i : ℕ) (m : Move) → IsFirst test ms i m → find test ms ≡ Some m
first-found test [] i m f = let e = f.here in cc
first-found test (n ∷ ms) zero m f =
    let same : n ≡ m = let e = f.here in cc in
    let t : test n ≡ true = ap test same ∙ f.passes in
    rw t (ap Some same)
first-found test (n ∷ ms) (suc i) m f =
    let t : test n ≡ false = f.first 0 n (omega arith) refl in
    rw t (first-found test ms i m (record { here = f.here; passes = f.passes; first = λ j k low e. f.first (suc j) k (omega arith) e }))

passing-found : (test : Move → Bool) (ms : List Move) (i : ℕ) (n : Move) → slice_get ms i ≡ Some n → test n ≡ true → (m : Move) × (find test ms ≡ Some m)
passing-found test [] i n e t = cc
passing-found test (k ∷ ms) zero n e t = let same : k ≡ n = cc in (k, rw (ap test same ∙ t) refl)
passing-found test (k ∷ ms) (suc i) n e t =
    let later = passing-found test ms i n e t in
    elim (test k) as (λ b. (m : Move) × (cond b (Some k) (find test ms) ≡ Some m)) [ true ↦ (k, refl) | false ↦ later ]

-- ---- the greatest of a list is the worth of one of it

greatest_from-met : (r : Move → ℤ) (a : ℤ) (ms : List Move) → (greatest_from a (map r ms) ≤ℤ a) ⊎ ((i : ℕ) × (n : Move) × (slice_get ms i ≡ Some n) × (greatest_from a (map r ms) ≤ℤ r n))
greatest_from-met r a [] = inl (omega (arith, ints))
greatest_from-met r a (m ∷ ms) =
    elim (greatest_from-met r (int_max a (r m)) ms) [
      | inl low ↦ by_lt_z a (r m)
          (λ more. inr (0, m, refl, omega (arith, ints, clamps, low)))
          (λ less. inl (omega (arith, ints, clamps, low)))
      | inr met ↦ inr (suc met.0, met.1, met.2, met.3)
    ]

pub greatest-met : (r : Move → ℤ) (ms : List Move) → 0 < length ms → (i : ℕ) × (n : Move) × (slice_get ms i ≡ Some n) × (greatest (map r ms) ≤ℤ r n)
greatest-met r [] some = absurd (omega (arith, some))
greatest-met r (m ∷ ms) some =
    elim (greatest_from-met r (r m) ms) [
      | inl low ↦ (0, m, refl, low)
      | inr met ↦ (suc met.0, met.1, met.2, met.3)
    ]

-- ---- the first of the greatest

le-true : (a b : ℤ) → int_le a b ≡ true → a ≤ℤ b
le-true a b e = grind (arith, ints)

true-le : (a b : ℤ) → a ≤ℤ b → int_le a b ≡ true
true-le a b e = grind (arith, ints)

le-false : (a b : ℤ) → int_le a b ≡ false → b <ℤ a
le-false a b e = grind (arith, ints)

false-le : (a b : ℤ) → b <ℤ a → int_le a b ≡ false
false-le a b e = grind (arith, ints)

worth-of : (r : Move → ℤ) (ms : List Move) (j : ℕ) (y : ℤ) → slice_get (map r ms) j ≡ Some y → (n : Move) × (slice_get ms j ≡ Some n) × (r n ≡ y)
worth-of r [] j y e = cc
worth-of r (m ∷ ms) zero y e = (m, refl, cc)
worth-of r (m ∷ ms) (suc j) y e = worth-of r ms j y e

is-greatest : (r : Move → ℤ) (ms : List Move) (m : Move) → find (λ n. int_le (greatest (map r ms)) (r n)) ms ≡ Some m → (i : ℕ) × (slice_get ms i ≡ Some m) × IsFirstGreatest (map r ms) i (r m)
is-greatest r ms m e =
    let found = found-first (λ n. int_le (greatest (map r ms)) (r n)) ms m e in
    let f = found.1 in
    let top : greatest (map r ms) ≤ℤ r m = le-true _ _ f.passes in (
      found.0,
      f.here,
      record {
        here = slice_get-map r ms found.0 ∙ ap (option_map r) f.here;
        most = λ j y eq. let w = worth-of r ms j y eq in
            let each : r w.0 ≤ℤ greatest (map r ms) = greatest-each r ms j w.0 w.1 in
            omega (arith, ints, top, each, w.2);
        first = λ j y low eq. let w = worth-of r ms j y eq in
            let less : r w.0 <ℤ greatest (map r ms) = le-false _ _ (f.first j w.0 low w.1) in
            omega (arith, ints, top, less, w.2);
      },
    )

greatest-is : (r : Move → ℤ) (ms : List Move) (i : ℕ) (m : Move) → slice_get ms i ≡ Some m → IsFirstGreatest (map r ms) i (r m) → 0 < length ms
    → find (λ n. int_le (greatest (map r ms)) (r n)) ms ≡ Some m
greatest-is r ms i m here f some =
    let met = greatest-met r ms some in
    let most : r met.1 ≤ℤ r m = f.most met.0 (r met.1) (slice_get-map r ms met.0 ∙ ap (option_map r) met.2) in
    let top : greatest (map r ms) ≤ℤ r m = omega (arith, ints, most, met.3) in
    let each : r m ≤ℤ greatest (map r ms) = greatest-each r ms i m here in
    first-found (λ n. int_le (greatest (map r ms)) (r n)) ms i m (record {
      here = here;
      passes = true-le _ _ top;
      first = λ j n low eq. let less : r n <ℤ r m = f.first j (r n) low (slice_get-map r ms j ∙ ap (option_map r) eq) in
          let under : r n <ℤ greatest (map r ms) = omega (arith, ints, less, each) in
          false-le (greatest (map r ms)) (r n) under;
    })

pub best-exists : (p : Position) (d : ℕ) → IsInner p d → (m : Move) × (best p d ≡ Some m)
unfolding best
best-exists p d inner =
    let r : Move → ℤ = reply_value p (d - 1) in
    let met = greatest-met r (moves p) (moves-not_over p inner.open_) in
    passing-found (λ n. int_le (greatest (map r (moves p))) (r n)) (moves p) met.0 met.1 met.2 (true-le _ _ met.3)

pub best-is : (p : Position) (d : ℕ) (m : Move) → best p d ≡ Some m → IsBest p d m
unfolding best
best-is p d m e =
    let f = is-greatest (reply_value p (d - 1)) (moves p) m e in
    record { place = f.0; move = f.1; worth = f.2 }

pub is-best : (p : Position) (d : ℕ) (m : Move) → IsInner p d → IsBest p d m → best p d ≡ Some m
unfolding best
is-best p d m inner b = greatest-is (reply_value p (d - 1)) (moves p) b.place m b.move b.worth (moves-not_over p inner.open_)
