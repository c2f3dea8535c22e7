-- Euler's number as the sum of what the pieces count, one after another.
use Rattle.std.proofs.Common.{◌≡◌, ◌≢◌, ℕ, ◌+◌, ◌≤◌, ◌<◌, Bool, true, false, ◌&&◌, List, [], ◌∷◌, refl, sym, ◌∙◌, ap, subst, arith, ℤ, pos, negsuc, ◌+ℤ◌, ◌-ℤ◌, ◌≤ℤ◌, FitsSigned, to_z, of_z, w32}
use Rattle.std.specs.Prelude.{Option, Some, None, nat_eq, nat_lt, slice_get, if◌then◌else◌}
use Rattle.std.proofs.lemmas.Int.{ints}
use Rattle.std.proofs.lemmas.Bool.{lt-ltb, ltb-true, eqb-true, eq-eqb}
use Rattle.std.proofs.lemmas.Bool.Decides.{nat_tests}
use Rattle.hive_model.specs.declared.places.Place.{Place}
use Rattle.hive_model.specs.declared.places.Spot.{Spot}
use Rattle.hive_model.specs.declared.places.Dir.TheVariants.{E, NE, NW}
use Rattle.hive_model.specs.Places.{step}
use Rattle.hive_model.specs.Neighbours.{ring, ring_mask}
use Rattle.hive_model.specs.Boards.{Stacks, IsBoard, StandsAt, stack_at, is_occupied, places_of, spot_of}
use Rattle.hive_model.proofs.BoardLemmas.{stands_on, occupied_stands, spot_of_stands, stands_spot_of}
use Rattle.hive_model.proofs.NearLaws.{on_occupied}
use Rattle.hive_model.proofs.CountLaws.{places_rise}
use Rattle.arcs.specs.Masks.{arcs, how_many}
use Rattle.euler.specs.Euler.{euler_number}
use Rattle.euler.specs.Counting.{worth, counted, TellsCuts, TellsBeside}
use Rattle.euler.proofs.Counts.{one, on_is, is_on, same_count, counts, all_counted}
use Rattle.euler.proofs.Rings.{three_counts}
use Rattle.euler.proofs.Parts.{distinct}
use Rattle.euler.proofs.EulerBoards.{law_cut, law_few, law_many}

-- the piece on the ground, if there is one, is before this number
abbrev pub lower : ℕ → Option ℕ → Bool
lower n None = false
lower n (Some y) = nat_lt y n

next_test : (y n : ℕ) → y ≢ n → nat_lt y (n + 1) ≡ nat_lt y n
next_test y n h = grind (arith, nat_tests)

abbrev spot_at : Place → Spot
spot_at q = record { place = q; level = 0 }

module _ (b : Stacks) (is : IsBoard b) where
  -- how many places whose ground piece is before this number pass a test
  abbrev pub passed : ℕ → (Place → Bool) → ℕ
  passed n t = how_many (λ p. lower n (slice_get (stack_at b p) 0) && t p) (places_of b)

  stays : (n : ℕ) (q : Place) → ¬ StandsAt b n q 0 → lower (n + 1) (slice_get (stack_at b q) 0) ≡ lower n (slice_get (stack_at b q) 0)
  stays n q h = elim (slice_get (stack_at b q) 0) as (λ o. slice_get (stack_at b q) 0 ≡ o → lower (n + 1) o ≡ lower n o) [
    | None ↦ λ _. refl
    | Some y ↦ λ e. next_test y n (λ same. h (e ∙ ap Some same))
  ] refl

  all_stay : (n : ℕ) → ((q : Place) → ¬ StandsAt b n q 0) → (t : Place → Bool) → passed (n + 1) t ≡ passed n t
  all_stay n h t = λ i. how_many (λ p. stays n p (h p) i && t p) (places_of b)

  one_more : (n : ℕ) (p : Place) → StandsAt b n p 0 → (t : Place → Bool) → passed (n + 1) t ≡ passed n t + one (t p)
  one_more n p stands t =
      let below : nat_lt n (n + 1) ≡ true = lt-ltb n (n + 1) (omega arith) in
      let off : (nat_lt n n && t p) ≡ false = ap (λ s. s && t p) (itself n) in
      counts (λ q. lower n (slice_get (stack_at b q) 0) && t q) (λ q. lower (n + 1) (slice_get (stack_at b q) 0) && t q) p (places_of b) (distinct (places_of b) (places_rise b is.in_order))
      (λ q other. ap (λ s. s && t q) (stays n q (λ h. other (is.once n p q 0 0 stands h).0)))
      (ap (λ o. lower n o && t p) stands ∙ off)
      ∙ ap (λ s. passed n t + one (s && (lower (n + 1) (slice_get (stack_at b p) 0) && t p))) (on_is (places_of b) p (stands_on b n p 0 stands))
      ∙ ap (λ o. passed n t + one (lower (n + 1) o && t p)) stands
      ∙ ap (λ s. passed n t + one (s && t p)) below
    where
      itself : (n : ℕ) → nat_lt n n ≡ false
      itself n = grind (arith, nat_tests)

  none_yet : (t : Place → Bool) → passed 0 t ≡ 0
  none_yet t = none (places_of b)
    where
      never : (o : Option ℕ) → lower 0 o ≡ false
      never None = refl
      never (Some y) = grind (arith, nat_tests)

      none : (ps : List Place) → how_many (λ p. lower 0 (slice_get (stack_at b p) 0) && t p) ps ≡ 0
      none [] = refl
      none (p ∷ ps) = let rest = none ps in let here : one (lower 0 (slice_get (stack_at b p) 0) && t p) ≡ 0 = ap (λ s. one (s && t p)) (never (slice_get (stack_at b p) 0)) in omega (arith, rest, here)

  all_passed : (t : Place → Bool) → passed 28 t ≡ how_many t (places_of b)
  all_passed t = same_count t (λ p. lower 28 (slice_get (stack_at b p) 0) && t p) (places_of b) (λ q on.
      let first = occupied_stands b q (on_occupied b is.stacks q (is_on (places_of b) q on)) in
      ap (λ o. lower 28 o && t q) first.1 ∙ ap (λ s. s && t q) (lt-ltb _ _ (is.pieces q 0 first.0 first.1)))

  -- the number of those places
  abbrev pub number_below : ℕ → ℤ
  number_below n =
      pos (passed n (λ _. true) + (passed n (λ p. is_occupied b (step p E) && is_occupied b (step p NE)) + passed n (λ p. is_occupied b (step p NE) && is_occupied b (step p NW))))
      -ℤ pos (passed n (λ p. is_occupied b (step p E)) + passed n (λ p. is_occupied b (step p NE)) + passed n (λ p. is_occupied b (step p NW)))

  pub number_first : number_below 0 ≡ pos 0
  number_first =
      let a = none_yet (λ _. true) in
      let c = none_yet (λ p. is_occupied b (step p E) && is_occupied b (step p NE)) in
      let d = none_yet (λ p. is_occupied b (step p NE) && is_occupied b (step p NW)) in
      let e = none_yet (λ p. is_occupied b (step p E)) in
      let f = none_yet (λ p. is_occupied b (step p NE)) in
      let g = none_yet (λ p. is_occupied b (step p NW)) in
      omega (arith, ints, a, c, d, e, f, g)

  pub number_all : number_below 28 ≡ euler_number b
  number_all =
      let a = all_passed (λ _. true) in
      let size = all_counted (places_of b) in
      let c = all_passed (λ p. is_occupied b (step p E) && is_occupied b (step p NE)) in
      let d = all_passed (λ p. is_occupied b (step p NE) && is_occupied b (step p NW)) in
      let e = all_passed (λ p. is_occupied b (step p E)) in
      let f = all_passed (λ p. is_occupied b (step p NE)) in
      let g = all_passed (λ p. is_occupied b (step p NW)) in
      omega (arith, ints, a, size, c, d, e, f, g)

  number_stays : (n : ℕ) → ((q : Place) → ¬ StandsAt b n q 0) → number_below (n + 1) ≡ number_below n +ℤ pos 0
  number_stays n h =
      let a = all_stay n h (λ _. true) in
      let c = all_stay n h (λ p. is_occupied b (step p E) && is_occupied b (step p NE)) in
      let d = all_stay n h (λ p. is_occupied b (step p NE) && is_occupied b (step p NW)) in
      let e = all_stay n h (λ p. is_occupied b (step p E)) in
      let f = all_stay n h (λ p. is_occupied b (step p NE)) in
      let g = all_stay n h (λ p. is_occupied b (step p NW)) in
      omega (arith, ints, a, c, d, e, f, g)

  number_more : (n : ℕ) (p : Place) → StandsAt b n p 0 → number_below (n + 1) ≡ number_below n +ℤ worth (ring_mask (ring (is_occupied b) p))
  number_more n p stands =
      let three = three_counts (ring (is_occupied b) p) in
      let a = one_more n p stands (λ _. true) in
      let c = one_more n p stands (λ p. is_occupied b (step p E) && is_occupied b (step p NE)) in
      let d = one_more n p stands (λ p. is_occupied b (step p NE) && is_occupied b (step p NW)) in
      let e = one_more n p stands (λ p. is_occupied b (step p E)) in
      let f = one_more n p stands (λ p. is_occupied b (step p NE)) in
      let g = one_more n p stands (λ p. is_occupied b (step p NW)) in
      omega (arith, ints, three, a, c, d, e, f, g)

  pub number_next : (n : ℕ) → number_below (n + 1) ≡ number_below n +ℤ counted b (spot_of b n)
  number_next n = elim (spot_of b n) as (λ o. spot_of b n ≡ o → number_below (n + 1) ≡ number_below n +ℤ counted b o) [
    | None ↦ λ e. number_stays n (λ q h. let wrong : None ≡ Some (spot_at q) = sym e ∙ stands_spot_of b is n q 0 h in cc)
    | Some s ↦ λ e. elim (nat_eq s.level 0) as (λ t. nat_eq s.level 0 ≡ t → number_below (n + 1) ≡ number_below n +ℤ (if t then worth (ring_mask (ring (is_occupied b) s.place)) else pos 0)) [
      | true ↦ λ ground. number_more n s.place (subst (StandsAt b n s.place) (eqb-true _ _ ground) (spot_of_stands b n s e))
      | false ↦ λ above. number_stays n (λ q h.
          let same : Some s ≡ Some (spot_at q) = sym e ∙ stands_spot_of b is n q 0 h in
          let level : s.level ≡ 0 = ap (λ (t : Spot). t.level) (let one : s ≡ spot_at q = cc in one) in
          let wrong : false ≡ true = sym above ∙ eq-eqb _ _ level in cc)
    ] refl
  ] refl

-- As the code adds it up

pub record IsCounted (b : Stacks) (n : ℕ) (z : ℤ) : Type 0 where
  pub counts : (is : IsBoard b) → z ≡ number_below b is n
  pub low : pos 0 ≤ℤ (z +ℤ pos n)
  pub high : z ≤ℤ pos n

pub counted_first : (b : Stacks) → IsCounted b 0 (pos 0)
counted_first b = record { counts = λ is. sym (number_first b is); low = omega (arith, ints); high = omega (arith, ints) }

module _ (b : Stacks) (n : ℕ) (z w : ℤ) (so_far : IsCounted b n z) (small : n < 28) (low : negsuc 0 ≤ℤ w) (high : w ≤ℤ pos 1) where
  pub next_fits : FitsSigned w32 (z +ℤ to_z w32 (of_z w32 w))
  next_fits = let l = so_far.low in let h = so_far.high in omega (arith, ints, l, h, low, high, small)

  pub counted_next : (x : ℕ) → x ≡ n → w ≡ counted b (spot_of b x) → IsCounted b (n + 1) (to_z w32 (of_z w32 (z +ℤ to_z w32 (of_z w32 w))))
  counted_next x same is_worth =
      let l = so_far.low in
      let h = so_far.high in
      let e : to_z w32 (of_z w32 (z +ℤ to_z w32 (of_z w32 w))) ≡ z +ℤ w = omega (arith, ints, l, h, low, high, small) in
      let more : w ≡ counted b (spot_of b n) = is_worth ∙ ap (λ (x : ℕ). counted b (spot_of b x)) same in
      subst (IsCounted b (n + 1)) (sym e) (record {
        counts = λ is. let old = so_far.counts is in let new = number_next b is n in (λ i. old i +ℤ more i) ∙ sym new;
        low = omega (arith, ints, l, low);
        high = omega (arith, ints, h, high);
      })

pub counted_all : (b : Stacks) → IsBoard b → (n : ℕ) (z : ℤ) → IsCounted b n z → n ≡ 28 → z ≡ euler_number b
counted_all b is n z so_far all = (subst (λ k. IsCounted b k z) all so_far).counts is ∙ number_all b is

pub counted_ground : (b : Stacks) (x : ℕ) (s : Spot) → spot_of b x ≡ Some s → s.level ≤ 0 → (mask : ℕ) → mask ≡ ring_mask (ring (is_occupied b) s.place) → (w : ℤ) → w ≡ worth mask → negsuc 0 ≤ℤ w → w ≤ℤ pos 1
    → to_z w32 (of_z w32 w) ≡ counted b (spot_of b x)
counted_ground b x s e ground mask is_mask w is_worth low high =
    let same : to_z w32 (of_z w32 w) ≡ w = omega (arith, ints, low, high) in
    let level : s.level ≡ 0 = omega (arith, ground) in
    same ∙ is_worth ∙ ap worth is_mask ∙ sym (ap (counted b) e ∙ ap (λ t. if t then worth (ring_mask (ring (is_occupied b) s.place)) else pos 0) (eq-eqb _ _ level))

-- The test

pub two_tell : (mask n : ℕ) → n ≡ arcs mask → TellsCuts mask (nat_lt 1 n)
two_tell mask n is_arcs b is one whole p on here =
    let cut = law_cut b is one whole p on in
    let many : n ≡ arcs (ring_mask (ring (is_occupied b) p)) = is_arcs ∙ ap arcs here in (
      λ h. let two = ltb-true 1 n h in cut.1 (omega (arith, two, many)),
      λ s. let two = cut.0 s in lt-ltb 1 n (omega (arith, two, many)),
    )

pub few_tell : (mask n : ℕ) (number : ℤ) → n ≡ arcs mask → n < 2 → TellsBeside mask number false
few_tell mask n number is_arcs few b is one whole p on here =
    let round : n ≡ arcs (ring_mask (ring (is_occupied b) p)) = is_arcs ∙ ap arcs here in (
      λ h. let wrong : false ≡ true = h in absurd (cc),
      λ s. absurd (law_few b one p (omega (arith, few, round)) s),
    )

pub many_tell : (mask n : ℕ) (number : ℤ) → n ≡ arcs mask → pos 3 ≤ℤ (number +ℤ pos n) → TellsBeside mask number true
many_tell mask n number is_arcs many b is one whole p on here =
    let round : n ≡ arcs (ring_mask (ring (is_occupied b) p)) = is_arcs ∙ ap arcs here in (
      λ _. law_many b is p on (omega (arith, ints, many, whole, round)),
      λ _. refl,
    )
