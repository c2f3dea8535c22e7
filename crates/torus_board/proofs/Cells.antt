-- Places that differ by less than the side have cells of their own.
use Rattle.std.proofs.Common.{◌≡◌, ℕ, suc, zero, ◌+◌, ◌*◌, ◌≤◌, ◌<◌, ◌/◌, ◌%◌, true, false, inl, inr, refl, sym, ◌∙◌, ap, arith, ℤ, pos, negsuc, ◌+ℤ◌, ◌≤ℤ◌}
use Rattle.std.specs.Prelude.{nat_le, nat_lt}
use Rattle.std.specs.Int.{int_rem_euclid}
use Rattle.std.proofs.lemmas.Int.{ints, int_rem_euclid_is}
use Rattle.std.proofs.lemmas.Bool.{leb-true, leb-false, ltb-true, ltb-false}
use Rattle.std.proofs.Math.Nat.{div-add-mod, mod-lt}
use Rattle.hive_model.specs.declared.places.Place.{Place}
use Rattle.hive_model.specs.Spread.{AreNear}
use Rattle.torus_board.specs.Residues.{residue, cell_of}
use Rattle.rule_laws.proofs.SpanLaws.{at_most}

times_apart : (n x y : ℕ) → x < y → n * x + n ≤ n * y
times_apart zero x y h = omega arith
times_apart (suc n) x y h = let rest = times_apart n x y h in omega (arith, rest, h)

times_less : (n x y : ℕ) → x ≤ y → n * x ≤ n * y
times_less zero x y h = omega arith
times_less (suc n) x y h = let rest = times_less n x y h in omega (arith, rest, h)

same_rem : (n a b : ℕ) → a % n ≡ b % n → a ≤ b → b < a + n → a ≡ b
same_rem n a b same low high =
    let at_a = div-add-mod a n in
    let at_b = div-add-mod b n in
    elim (nat_le (b / n) (a / n)) as (λ t. nat_le (b / n) (a / n) ≡ t → a ≡ b) [
      | true ↦ λ e.
          let h = leb-true (b / n) (a / n) e in
          let less : n * (b / n) ≤ n * (a / n) = times_less n (b / n) (a / n) h in
          omega (arith, same, low, at_a, at_b, less)
      | false ↦ λ e.
          let h = leb-false (b / n) (a / n) e in
          let more = times_apart n (a / n) (b / n) h in
          omega (arith, same, high, at_a, at_b, more)
    ] refl

natural : (z : ℤ) → pos 0 ≤ℤ z → (m : ℕ) × (z ≡ pos m)
natural (pos m) h = (m, refl)
natural (negsuc m) h = absurd (omega (arith, ints, h))

down : ℤ → ℕ
down (pos a) = 0
down (negsuc a) = a + 1

not_below : (x : ℤ) (k : ℕ) → down x ≤ k → pos 0 ≤ℤ (x +ℤ pos k)
unfolding down
not_below (pos a) k h = omega (arith, ints)
not_below (negsuc a) k h = omega (arith, ints, h)

times_one : (a n : ℕ) → 0 < n → a ≤ a * n
times_one zero n h = omega arith
times_one (suc a) n h = let rest = times_one a n h in omega (arith, rest, h)

one_pos : (a b : ℕ) → pos a ≡ pos b → a ≡ b
one_pos a b h = omega (arith, ints, h)

same_coordinate : (n : ℕ) (x y : ℤ) → 0 < n → int_rem_euclid x (pos n) ≡ int_rem_euclid y (pos n) → x ≤ℤ y → (y +ℤ pos 1) ≤ℤ (x +ℤ pos n) → x ≡ y
same_coordinate n x y some same low high =
    let k = down x in
    let m = k * n in
    let a = natural (x +ℤ pos m) (not_below x m (times_one k n some)) in
    let first = not_below x m (times_one k n some) in
    let second : pos 0 ≤ℤ (y +ℤ pos m) = omega (arith, ints, first, low) in
    let b = natural (y +ℤ pos m) second in
    let rem_a = int_rem_euclid_is x (pos n) n k a.0 some refl a.1 in
    let rem_b = int_rem_euclid_is y (pos n) n k b.0 some refl b.1 in
    let rems = one_pos _ _ (sym rem_a ∙ same ∙ rem_b) in
    let less : a.0 ≤ b.0 = (let p = a.1 in let q = b.1 in omega (arith, ints, p, q, low)) in
    let near : b.0 < a.0 + n = (let p = a.1 in let q = b.1 in omega (arith, ints, p, q, high)) in
    let is = same_rem n a.0 b.0 rems less near in
    let p = a.1 in
    let q = b.1 in
    omega (arith, ints, p, q, is)

-- either way round
same_either : (n : ℕ) (x y : ℤ) → 0 < n → int_rem_euclid x (pos n) ≡ int_rem_euclid y (pos n) → (x +ℤ pos 1) ≤ℤ (y +ℤ pos n) → (y +ℤ pos 1) ≤ℤ (x +ℤ pos n) → x ≡ y
same_either n x y some same low high = elim (at_most x y) [
  | inl h ↦ same_coordinate n x y some same h high
  | inr h ↦ let back : y ≤ℤ x = omega (arith, ints, h) in sym (same_coordinate n y x some (sym same) back low)
]

pub residue_small : (n : ℕ) (z : ℤ) → 0 < n → residue n z < n
residue_small n (pos a) h = mod-lt a h
residue_small n (negsuc a) h = omega (arith, h)

parts_same : (n x y t u : ℕ) → t < n → u < n → n * x + t ≡ n * y + u → (x ≡ y) × (t ≡ u)
parts_same n x y t u ht hu same =
    let is : x ≡ y = (elim (nat_lt x y) as (λ b. nat_lt x y ≡ b → x ≡ y) [
      | true ↦ λ e. let more = times_apart n x y (ltb-true x y e) in absurd (omega (arith, same, more, ht, hu))
      | false ↦ λ e. elim (nat_lt y x) as (λ b. nat_lt y x ≡ b → x ≡ y) [
        | true ↦ λ f. let more = times_apart n y x (ltb-true y x f) in absurd (omega (arith, same, more, ht, hu))
        | false ↦ λ f. let le = ltb-false x y e in let ge = ltb-false y x f in omega (arith, le, ge)
      ] refl
    ] refl) in
    let rest : n * x + t ≡ n * x + u = same ∙ ap (λ z. n * z + u) (sym is) in
    (is, omega (arith, rest))

same_residue : (n : ℕ) (x y : ℤ) → residue n x ≡ residue n y → int_rem_euclid x (pos n) ≡ int_rem_euclid y (pos n)
same_residue n (pos a) (pos b) h = ap pos h
same_residue n (pos a) (negsuc b) h = ap pos h
same_residue n (negsuc a) (pos b) h = ap pos h
same_residue n (negsuc a) (negsuc b) h = ap pos h

-- places that are near each other have cells of their own
pub cell_once : (n : ℕ) (p q : Place) → 0 < n → AreNear n p q → cell_of n p ≡ cell_of n q → p ≡ q
cell_once n p q some near same =
    let parts = parts_same n (residue n p.q) (residue n q.q) (residue n p.r) (residue n q.r) (residue_small n p.r some) (residue_small n q.r some) same in
    let qs = same_either n p.q q.q some (same_residue n p.q q.q parts.0) near.q_up near.q_down in
    let rs = same_either n p.r q.r some (same_residue n p.r q.r parts.1) near.r_up near.r_down in
    (λ i. record { q = qs i; r = rs i })

pub cell_within : (n : ℕ) (p : Place) → 0 < n → cell_of n p < n * n
cell_within n p some =
    let more = times_apart n (residue n p.q) n (residue_small n p.q some) in
    let less = residue_small n p.r some in
    omega (arith, more, less)

-- the number of a cell fits
pub number_small : (n r t : ℕ) → n ≤ 128 → r < n → t < n → n * r + t < 16384
number_small n r t small hr ht =
    let more = times_apart n r n hr in
    let square = times_less n n 128 small in
    omega (arith, more, square, small, ht)

pub number_below : (n r t : ℕ) → r < n → t < n → n * r + t < n * n
number_below n r t hr ht = let more = times_apart n r n hr in omega (arith, more, ht)
