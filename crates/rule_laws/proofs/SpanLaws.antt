-- Between two places of a walk each coordinate between theirs is met.
use Rattle.std.proofs.Common.{◌≡◌, ℕ, suc, zero, true, false, List, [], ◌∷◌, length, ◌⊎◌, inl, inr, refl, ap, subst, arith, ℤ, pos, negsuc, ◌+ℤ◌, ◌≤ℤ◌}
use Rattle.std.specs.Prelude.{IsTrue, nat_le}
use Rattle.std.proofs.lemmas.Int.{ints}
use Rattle.std.proofs.lemmas.Bool.{leb-true, leb-false}
use Rattle.hive_model.proofs.BoardLemmas.{occupied_stands}
use Rattle.hive_model.specs.declared.places.Place.{Place}
use Rattle.hive_model.specs.declared.places.Dir.{Dir}
use Rattle.hive_model.specs.declared.places.Dir.TheVariants.{E, NE, NW, W, SW, SE}
use Rattle.hive_model.specs.Lists.{IsOn, IsPath}
use Rattle.hive_model.specs.Lists.{count_from}
use Rattle.hive_model.specs.Places.{step}
use Rattle.hive_model.specs.Boards.{Stacks, is_occupied, StandsAt, IsBoard}
use Rattle.hive_model.specs.Hive.{StepOn, OneHive}
use Rattle.rule_laws.specs.Spans.{SpanLaw}
use Rattle.rule_laws.proofs.Pigeons.{Apart, few_below}

-- a coordinate rises by at most 1 in a step
abbrev pub Slow : (Place → ℤ) → Type 0
Slow f = (p : Place) (d : Dir) → f (step p d) ≤ℤ (f p +ℤ pos 1)

slow : (p : Place) (d : Dir) → ((step p d).q ≤ℤ (p.q +ℤ pos 1)) × ((step p d).r ≤ℤ (p.r +ℤ pos 1))
slow p E = (omega (arith, ints), omega (arith, ints))
slow p NE = (omega (arith, ints), omega (arith, ints))
slow p NW = (omega (arith, ints), omega (arith, ints))
slow p W = (omega (arith, ints), omega (arith, ints))
slow p SW = (omega (arith, ints), omega (arith, ints))
slow p SE = (omega (arith, ints), omega (arith, ints))

pub slow_q : Slow (λ p. p.q)
slow_q p d = (slow p d).0

pub slow_r : Slow (λ p. p.r)
slow_r p d = (slow p d).1

-- one number is the other, or greater
pub at_most : (x y : ℤ) → (x ≤ℤ y) ⊎ ((y +ℤ pos 1) ≤ℤ x)
at_most (pos a) (pos b) = elim (nat_le a b) as (λ t. nat_le a b ≡ t → (pos a ≤ℤ pos b) ⊎ ((pos b +ℤ pos 1) ≤ℤ pos a)) [
  | true ↦ λ e. let h = leb-true a b e in inl (omega (arith, ints, h))
  | false ↦ λ e. let h = leb-false a b e in inr (omega (arith, ints, h))
] refl
at_most (pos a) (negsuc b) = inr (omega (arith, ints))
at_most (negsuc a) (pos b) = inl (omega (arith, ints))
at_most (negsuc a) (negsuc b) = elim (nat_le b a) as (λ t. nat_le b a ≡ t → (negsuc a ≤ℤ negsuc b) ⊎ ((negsuc b +ℤ pos 1) ≤ℤ negsuc a)) [
  | true ↦ λ e. let h = leb-true b a e in inl (omega (arith, ints, h))
  | false ↦ λ e. let h = leb-false b a e in inr (omega (arith, ints, h))
] refl

cases_ℤ : (x y : ℤ) → x ≤ℤ y → (x ≡ y) ⊎ ((x +ℤ pos 1) ≤ℤ y)
cases_ℤ x y h = elim (at_most y x) [ inl back ↦ inl (omega (arith, ints, h, back)) | inr more ↦ inr more ]

module _ (b : Stacks) (is : IsBoard b) (f : Place → ℤ) (slow : Slow f) where
  -- a walk meets each coordinate between those of its ends
  met : (v : ℤ) (p : Place) (walk : List Place) (q : Place) → IsTrue (is_occupied b p) → IsPath (StepOn (is_occupied b)) p walk q → f p ≤ℤ v → v ≤ℤ f q
      → (r : Place) × IsTrue (is_occupied b r) × (f r ≡ v)
  met v p [] q on h low high =
      let same : f p ≡ f q = ap f h in
      let is : f p ≡ v = omega (arith, ints, low, high, same) in
      (p, on, is)
  met v p (x ∷ walk) q on h low high = elim (cases_ℤ (f p) v low) [
    | inl same ↦ (p, on, same)
    | inr more ↦
        let near : f x ≤ℤ (f p +ℤ pos 1) = subst (λ z. f z ≤ℤ (f p +ℤ pos 1)) h.0.0.1 (slow p h.0.0.0) in
        let next : f x ≤ℤ v = omega (arith, ints, near, more) in
        met v x walk q h.0.1 h.1 next high
  ]

  module _ (one : OneHive b) (p q : Place) (on_p : IsTrue (is_occupied b p)) (on_q : IsTrue (is_occupied b q)) where
    -- as many pieces, each on the ground, as there are coordinates
    record Ladder (n : ℕ) (xs : List ℕ) : Type 0 where
      many : length xs ≡ n
      apart : Apart xs
      stands : (x : ℕ) → IsOn xs x → (r : Place) × StandsAt b x r 0 × ((f r +ℤ pos 1) ≤ℤ (f p +ℤ pos n))

    ladder : (n : ℕ) → (f p +ℤ pos n) ≤ℤ (f q +ℤ pos 1) → (xs : List ℕ) × Ladder n xs
    ladder zero h = ([], record { many = refl; apart = tt; stands = λ x on. absurd on })
    ladder (suc n) h =
        let less : (f p +ℤ pos n) ≤ℤ (f q +ℤ pos 1) = omega (arith, ints, h) in
        let rest = ladder n less in
        let walk = one p q on_p on_q in
        let low : f p ≤ℤ (f p +ℤ pos n) = omega (arith, ints) in
        let high : (f p +ℤ pos n) ≤ℤ f q = omega (arith, ints, h) in
        let there = met (f p +ℤ pos n) p walk.0 q on_p walk.1.1 low high in
        let x = occupied_stands b there.0 there.1 in (
          x.0 ∷ rest.0,
          record {
            many = ap suc rest.1.many;
            apart = (
              λ on.
                  let old = rest.1.stands x.0 on in
                  let same = (is.once x.0 there.0 old.0 0 0 x.1 old.1).0 in
                  let level : f there.0 ≡ f old.0 = ap f same in
                  omega (arith, ints, level, there.2, old.2),
              rest.1.apart,
            );
            stands = λ y on. elim on [
              | inl same ↦
                  let bound : (f there.0 +ℤ pos 1) ≤ℤ (f p +ℤ pos (suc n)) = (let level = there.2 in omega (arith, ints, level)) in
                  (there.0, subst (λ z. StandsAt b z there.0 0) same x.1, bound)
              | inr later ↦
                  let old = rest.1.stands y later in
                  let below = old.2 in
                  let bound : (f old.0 +ℤ pos 1) ≤ℤ (f p +ℤ pos (suc n)) = omega (arith, ints, below) in
                  (old.0, old.1, bound)
            ];
          },
        )

    pub span : f q ≤ℤ (f p +ℤ pos 27)
    span = elim (at_most (f q) (f p +ℤ pos 27)) [
      | inl h ↦ h
      | inr h ↦
          let high : (f p +ℤ pos 29) ≤ℤ (f q +ℤ pos 1) = omega (arith, ints, h) in
          let all = ladder 29 high in
          let few = few_below 28 all.0 all.1.apart (λ x on. let s = all.1.stands x on in is.pieces s.0 0 x s.1) in
          let long = all.1.many in
          let short : length (count_from 0 28) ≡ 28 = refl in
          absurd (omega (arith, few, long, short))
    ]

pub law : SpanLaw
law b is one p q on_p on_q = (span b is (λ p. p.q) slow_q one p q on_p on_q, span b is (λ p. p.r) slow_r one p q on_p on_q)
