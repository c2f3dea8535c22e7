-- Rows of pieces that a grasshopper hops over.
use Rattle.std.proofs.Common.{◌≡◌, ◌≢◌, ℕ, suc, zero, ◌+◌, ◌≤◌, ◌<◌, true, false, List, ◌⊎◌, inl, inr, refl, sym, ◌∙◌, ap, subst, arith, ℤ, pos, negsuc, ◌+ℤ◌, ◌≤ℤ◌}
use Rattle.std.specs.Prelude.{IsTrue}
use Rattle.std.proofs.lemmas.Bool.{cases_eq, ltb-true}
use Rattle.std.proofs.lemmas.Int.{ints}
use Rattle.hive_model.specs.declared.places.Place.{Place}
use Rattle.hive_model.specs.declared.places.Dir.{Dir}
use Rattle.hive_model.specs.declared.places.Dir.TheVariants.{E, NE, NW, W, SW, SE}
use Rattle.hive_model.specs.Places.{step, steps, east, south, IsWithin}
use Rattle.hive_model.specs.Boards.{Stacks, height_at, is_occupied, IsBoard}
use Rattle.hive_model.specs.Near.{with_place}
use Rattle.hive_model.specs.Reach.{Hop}
use Rattle.hive_model.proofs.CopyLaws.{not_occupied}
use Rattle.bug_moves.specs.Adding.{IsAtHive, IsAround, Gains}
use Rattle.bug_moves.specs.Ways.{HopAlong}
use Rattle.bug_moves.proofs.Gaining.{gains_place, gains_nothing}

pub occupied_not : (b : Stacks) (q : Place) → height_at b q ≡ 0 → is_occupied b q ≡ true → ⊥
occupied_not b q none e = let some = ltb-true 0 (height_at b q) e in omega (arith, none, some)

-- How far a row goes

moved_up : (a x y : ℤ) (n : ℕ) → a ≡ x +ℤ pos n → y ≡ pos 1 → a +ℤ y ≡ x +ℤ pos (suc n)
moved_up a x y n e f = omega (arith, ints, e, f)

moved_down : (a x y : ℤ) (n : ℕ) → a +ℤ pos n ≡ x → y ≡ negsuc 0 → (a +ℤ y) +ℤ pos (suc n) ≡ x
moved_down a x y n e f = omega (arith, ints, e, f)

nothing : (x : ℤ) → x ≡ x +ℤ pos 0
nothing x = omega (arith, ints)

-- a coordinate to which each step adds the direction's part
module _ (at : Place → ℤ) (part : Dir → ℤ) (adds : (p : Place) (d : Dir) → at (step p d) ≡ at p +ℤ part d) where
  goes_up : (n : ℕ) (p : Place) (d : Dir) → part d ≡ pos 1 → at (steps n p d) ≡ at p +ℤ pos n
  goes_up zero p d e = nothing (at p)
  goes_up (suc n) p d e = adds (steps n p d) d ∙ moved_up (at (steps n p d)) (at p) (part d) n (goes_up n p d e) e

  goes_down : (n : ℕ) (p : Place) (d : Dir) → part d ≡ negsuc 0 → at (steps n p d) +ℤ pos n ≡ at p
  goes_down zero p d e = sym (nothing (at p))
  goes_down (suc n) p d e = ap (λ (a : ℤ). a +ℤ pos (suc n)) (adds (steps n p d) d) ∙ moved_down (at (steps n p d)) (at p) (part d) n (goes_down n p d e) e

q_up : (n : ℕ) (p : Place) (d : Dir) → east d ≡ pos 1 → (steps n p d).q ≡ p.q +ℤ pos n
q_up = goes_up (λ p. p.q) east (λ p d. refl)

q_down : (n : ℕ) (p : Place) (d : Dir) → east d ≡ negsuc 0 → (steps n p d).q +ℤ pos n ≡ p.q
q_down = goes_down (λ p. p.q) east (λ p d. refl)

r_up : (n : ℕ) (p : Place) (d : Dir) → south d ≡ pos 1 → (steps n p d).r ≡ p.r +ℤ pos n
r_up = goes_up (λ p. p.r) south (λ p d. refl)

r_down : (n : ℕ) (p : Place) (d : Dir) → south d ≡ negsuc 0 → (steps n p d).r +ℤ pos n ≡ p.r
r_down = goes_down (λ p. p.r) south (λ p d. refl)

few_up : (a x : ℤ) (n : ℕ) → a ≡ x +ℤ pos n → pos 0 ≤ℤ (x +ℤ pos 9500) → a ≤ℤ pos 9000 → n ≤ 18500
few_up a x n e low high = omega (arith, ints, e, low, high)

few_down : (a x : ℤ) (n : ℕ) → a +ℤ pos n ≡ x → x ≤ℤ pos 9500 → pos 0 ≤ℤ (a +ℤ pos 9000) → n ≤ 18500
few_down a x n e high low = omega (arith, ints, e, low, high)

pub far_within : (n : ℕ) (p : Place) (d : Dir) → IsWithin 9500 p → IsWithin 9000 (steps n p d) → n ≤ 18500
far_within n p E h k = few_up (steps n p E).q p.q n (q_up n p E refl) h.q_low k.q_high
far_within n p NE h k = few_up (steps n p NE).q p.q n (q_up n p NE refl) h.q_low k.q_high
far_within n p NW h k = few_down (steps n p NW).r p.r n (r_down n p NW refl) h.r_high k.r_low
far_within n p W h k = few_down (steps n p W).q p.q n (q_down n p W refl) h.q_high k.q_low
far_within n p SW h k = few_down (steps n p SW).q p.q n (q_down n p SW refl) h.q_high k.q_low
far_within n p SE h k = few_up (steps n p SE).r p.r n (r_up n p SE refl) h.r_low k.r_high

-- the first n places in a direction are occupied
abbrev pub IsRow : Stacks → Place → Dir → ℕ → Type 0
IsRow b p d n = (k : ℕ) → 0 < k → k ≤ n → IsTrue (is_occupied b (steps k p d))

pub few_over : (b : Stacks) → IsBoard b → (p : Place) (d : Dir) (n : ℕ) → IsWithin 9500 p → IsRow b p d n → n ≤ 18500
few_over b is p d n within row = elim (cases_eq n 0) [
  | inl none ↦ omega (arith, none)
  | inr more ↦
      let some : 0 < n = omega (arith, more) in
      let same : n ≤ n = omega arith in
      far_within n p d within (is.within (steps n p d) (row n some same))
]

pub more_over : (b : Stacks) (p : Place) (d : Dir) (n : ℕ) → IsRow b p d n → IsTrue (is_occupied b (steps (suc n) p d)) → IsRow b p d (n + 1)
more_over b p d n row next k some low = elim (cases_eq k (suc n)) [
  | inl same ↦ subst (λ (m : ℕ). IsTrue (is_occupied b (steps m p d))) (sym same) next
  | inr other ↦ let less : k ≤ n = omega (arith, low, other) in row k some less
]

pub next_over : (p : Place) (d : Dir) (n : ℕ) (place next : Place) → place ≡ steps (suc n) p d → next ≡ step place d → next ≡ steps (suc (n + 1)) p d
next_over p d n place next is e =
    let more : suc n ≡ n + 1 = omega arith in
    e ∙ ap (λ x. step x d) is ∙ ap (λ (m : ℕ). steps (suc m) p d) more

far_same : (b : Stacks) (p : Place) (d : Dir) (n : ℕ) (q : Place) → 0 < n → IsRow b p d n → is_occupied b (steps (suc n) p d) ≡ false → (h : HopAlong b p d q) → suc n ≡ h.far
far_same b p d n q some row free h = elim (cases_eq h.far (suc n)) [
  | inl same ↦ sym same
  | inr other ↦ elim (cases_le h.far n) [
    | inl low ↦
        let enough = h.far_enough in
        let first : 0 < h.far = omega (arith, enough) in
        absurd (occupied_not b q h.empty (subst (λ (x : Place). IsTrue (is_occupied b x)) h.leads (row h.far first low)))
    | inr high ↦
        let first : 0 < suc n = omega arith in
        let past : suc n < h.far = omega (arith, other, high) in
        absurd (let wrong : false ≡ true = sym free ∙ h.over (suc n) first past in cc)
  ]
]
  where
    cases_le : (m n : ℕ) → (m ≤ n) ⊎ (n < m)
    cases_le m n = grind arith

pub row_at_hive : (b : Stacks) (p : Place) (d : Dir) (n : ℕ) (place : Place) → 0 < n → IsRow b p d n → place ≡ steps (suc n) p d → IsAtHive b place
row_at_hive b p d n place some row is = let same : n ≤ n = omega arith in (steps n p d, row n some same, inr (d, sym is))

pub gains_hop : (b : Stacks) (p : Place) (d : Dir) (n : ℕ) (place : Place) (xs ys : List Place) → IsAround b xs → 0 < n → IsRow b p d n → place ≡ steps (suc n) p d → is_occupied b place ≡ false → ys ≡ with_place place xs → Gains b (HopAlong b p d) xs ys
gains_hop b p d n place xs ys h some row is free made =
    let enough : 2 ≤ suc n = omega (arith, some) in
    gains_place b (HopAlong b p d) place xs ys h (row_at_hive b p d n place some row is) made
    (record {
      far = suc n;
      far_enough = enough;
      leads = sym is;
      empty = not_occupied b place free;
      over = λ k first low. let less : k ≤ n = omega (arith, low) in row k first less;
    })
    (λ q hop. is ∙ ap (λ (m : ℕ). steps m p d) (far_same b p d n q some row (ap (is_occupied b) (sym is) ∙ free) hop) ∙ hop.leads)

pub gains_no_hop : (b : Stacks) (p : Place) (d : Dir) (n : ℕ) (place : Place) (xs : List Place) → IsAround b xs → n ≤ 0 → place ≡ steps (suc n) p d → is_occupied b place ≡ false → Gains b (HopAlong b p d) xs xs
gains_no_hop b p d n place xs h none is free = gains_nothing b (HopAlong b p d) xs h (λ q hop.
    let enough = hop.far_enough in
    let first : 0 < suc n = omega arith in
    let low : suc n < hop.far = omega (arith, none, enough) in
    absurd (let wrong : false ≡ true = sym free ∙ ap (is_occupied b) is ∙ hop.over (suc n) first low in cc))

pub hop_along : (b : Stacks) (p : Place) (d : Dir) (q : Place) → HopAlong b p d q → Hop b p q
hop_along b p d q h = record { dir = d; far = h.far; far_enough = h.far_enough; leads = h.leads; empty = h.empty; over = h.over }

pub along_hop : (b : Stacks) (p q : Place) → Hop b p q → (d : Dir) × HopAlong b p d q
along_hop b p q h = (h.dir, record { far = h.far; far_enough = h.far_enough; leads = h.leads; empty = h.empty; over = h.over })

away_up : (a x : ℤ) (n : ℕ) → a ≡ x +ℤ pos n → x ≡ a → n ≤ 0
away_up a x n e f = omega (arith, ints, e, f)

away_down : (a x : ℤ) (n : ℕ) → a +ℤ pos n ≡ x → x ≡ a → n ≤ 0
away_down a x n e f = omega (arith, ints, e, f)

-- so many steps in one direction lead away
steps_move : (n : ℕ) (p : Place) (d : Dir) → p ≡ steps n p d → n ≤ 0
steps_move n p E e = away_up (steps n p E).q p.q n (q_up n p E refl) (ap (λ (z : Place). z.q) e)
steps_move n p NE e = away_up (steps n p NE).q p.q n (q_up n p NE refl) (ap (λ (z : Place). z.q) e)
steps_move n p NW e = away_down (steps n p NW).r p.r n (r_down n p NW refl) (ap (λ (z : Place). z.r) e)
steps_move n p W e = away_down (steps n p W).q p.q n (q_down n p W refl) (ap (λ (z : Place). z.q) e)
steps_move n p SW e = away_down (steps n p SW).q p.q n (q_down n p SW refl) (ap (λ (z : Place). z.q) e)
steps_move n p SE e = away_up (steps n p SE).r p.r n (r_up n p SE refl) (ap (λ (z : Place). z.r) e)

pub hop_moves : (b : Stacks) (p q : Place) → Hop b p q → p ≢ q
hop_moves b p q h e =
    let none = steps_move h.far p h.dir (e ∙ sym h.leads) in
    let enough = h.far_enough in
    omega (arith, none, enough)
