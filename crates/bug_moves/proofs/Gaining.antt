-- A list of places gains one place, or what each direction gives.
use Rattle.std.proofs.Common.{◌≡◌, ℕ, Bool, true, false, ◌+◌, ◌≤◌, ◌<◌, List, [], length, inl, inr, refl, sym, ◌∙◌, subst, arith}
use Rattle.std.proofs.lemmas.Bool.{cases_eq}
use Rattle.hive_model.specs.declared.places.Place.{Place}
use Rattle.hive_model.specs.declared.places.Dir.{Dir}
use Rattle.hive_model.specs.declared.places.Dir.TheVariants.{E, NE, NW, W, SW, SE}
use Rattle.hive_model.specs.Lists.{IsOn}
use Rattle.hive_model.specs.PlaceLists.{AreAll}
use Rattle.hive_model.specs.Places.{step, IsWithin}
use Rattle.hive_model.specs.Boards.{Stacks}
use Rattle.hive_model.specs.Steps.{GroundStep, ClimbingStep}
use Rattle.hive_model.specs.Near.{with_place}
use Rattle.hive_model.proofs.NearLaws.{rises_with, with_place_on, on_with_place}
use Rattle.hive_model.proofs.CountLaws.{touched_few}
use Rattle.bug_moves.proofs.AtHive.{ground_at_hive, climb_at_hive, at_hive_within}
use Rattle.std.specs.Prelude.{IsTrue}
use Rattle.gates.specs.Slides.{AreSlides, has_dir}
use Rattle.bug_moves.specs.Adding.{IsAtHive, IsAround, Gains, dir_at, InFirst}
use Rattle.bug_moves.specs.Ways.{Toward, InSome, Onward}

-- One place

pub around_with : (b : Stacks) (p : Place) (xs : List Place) → IsAround b xs → IsAtHive b p → IsAround b (with_place p xs)
around_with b p xs h near = record {
  sound = h.sound;
  in_order = rises_with p xs h.in_order;
  near = λ q on. elim (with_place_on p q xs on) [ inl same ↦ subst (IsAtHive b) (sym same) near | inr old ↦ h.near q old ];
}

-- there is room for one more place at the hive
pub room_for : (b : Stacks) (p : Place) (xs : List Place) → IsAround b xs → IsAtHive b p → length (with_place p xs) ≤ 196
room_for b p xs h near = let all = around_with b p xs h near in touched_few b h.sound (with_place p xs) all.in_order all.near

-- where a step leads there is room for one more place, and a step on from there is within bounds
pub ground_room : (b : Stacks) (p q : Place) (xs : List Place) → IsAround b xs → GroundStep b p q → length (with_place q xs) ≤ 196
ground_room b p q xs h ground = room_for b q xs h (ground_at_hive b p q ground)

pub climb_room : (b : Stacks) (p q : Place) (xs : List Place) → IsAround b xs → ClimbingStep b p q → length (with_place q xs) ≤ 196
climb_room b p q xs h climb = room_for b q xs h (climb_at_hive b p q climb)

pub ground_within : (b : Stacks) (p q : Place) (xs : List Place) → IsAround b xs → GroundStep b p q → IsWithin 9500 q
ground_within b p q xs h ground = at_hive_within b h.sound q (ground_at_hive b p q ground)

pub climb_within : (b : Stacks) (p q : Place) (xs : List Place) → IsAround b xs → ClimbingStep b p q → IsWithin 9500 q
climb_within b p q xs h climb = at_hive_within b h.sound q (climb_at_hive b p q climb)

pub gains_nothing : (b : Stacks) (P : Place → Type 0) (xs : List Place) → IsAround b xs → ((q : Place) → P q → IsOn xs q) → Gains b P xs xs
gains_nothing b P xs h there = record { list = h; kept = λ q on. on; gained = there; only = λ q on. inl on }

pub gains_place : (b : Stacks) (P : Place → Type 0) (p : Place) (xs ys : List Place) → IsAround b xs → IsAtHive b p → ys ≡ with_place p xs → P p → ((q : Place) → P q → p ≡ q) → Gains b P xs ys
gains_place b P p xs ys h near is here alone = subst (λ zs. Gains b P xs zs) (sym is) (record {
  list = around_with b p xs h near;
  kept = λ q on. on_with_place p q xs (inr on);
  gained = λ q is. on_with_place p q xs (inl (sym (alone q is)));
  only = λ q on. elim (with_place_on p q xs on) [ inl same ↦ inr (subst P (sym same) here) | inr old ↦ inl old ];
})

pub gains_same : (b : Stacks) (P S : Place → Type 0) (xs ys : List Place) → ((q : Place) → P q → S q) → ((q : Place) → S q → P q) → Gains b S xs ys → Gains b P xs ys
gains_same b P S xs ys there back h = record {
  list = h.list;
  kept = h.kept;
  gained = λ q is. h.gained q (there q is);
  only = λ q on. elim (h.only q on) [ inl old ↦ inl old | inr is ↦ inr (back q is) ];
}

-- A step in one direction

pub gains_toward : (b : Stacks) (S : Place → Place → Type 0) (p : Place) (d : Dir) (to : Place) (xs ys : List Place) → IsAround b xs → IsAtHive b to → to ≡ step p d → ys ≡ with_place to xs → S p to → Gains b (Toward S p d) xs ys
gains_toward b S p d to xs ys h near leads is here = gains_place b (Toward S p d) to xs ys h near is (sym leads, here) (λ q (same, _). leads ∙ same)

pub gains_no_step : (b : Stacks) (S : Place → Place → Type 0) (p : Place) (d : Dir) (to : Place) (xs : List Place) → IsAround b xs → to ≡ step p d → (S p to → IsOn xs to) → Gains b (Toward S p d) xs xs
gains_no_step b S p d to xs h leads there = gains_nothing b (Toward S p d) xs h (λ q (same, is).
    let e : to ≡ q = leads ∙ same in
    subst (IsOn xs) e (there (subst (S p) (sym e) is)))

-- a step in one direction, and then the way on from where it leads
pub onward_at : (S : Place → Type 0) (T : Place → Dir → Place → Type 0) (p : Place) (d : Dir) (to q : Place) → to ≡ step p d → S to → InSome (T to) q → Onward S T p d q
onward_at S T p d to q leads here on = subst (λ (x : Place). S x × InSome (T x) q) leads (here, on)

pub gains_onward : (b : Stacks) (S : Place → Type 0) (T : Place → Dir → Place → Type 0) (p : Place) (d : Dir) (to : Place) (xs ys : List Place) → to ≡ step p d → S to → Gains b (InSome (T to)) xs ys → Gains b (Onward S T p d) xs ys
gains_onward b S T p d to xs ys leads here = gains_same b (Onward S T p d) (InSome (T to)) xs ys
    (λ q (_, on). subst (λ (x : Place). InSome (T x) q) (sym leads) on)
    (λ q on. onward_at S T p d to q leads here on)

pub gains_not_onward : (b : Stacks) (S : Place → Type 0) (T : Place → Dir → Place → Type 0) (p : Place) (d : Dir) (xs : List Place) → IsAround b xs → (S (step p d) → ⊥) → Gains b (Onward S T p d) xs xs
gains_not_onward b S T p d xs h none = gains_nothing b (Onward S T p d) xs h (λ q (here, _). absurd (none here))

-- One thing of a row after another

pub gains_turn : (b : Stacks) (P : ℕ → Place → Type 0) (n : ℕ) (xs ys zs : List Place)
    → Gains b (λ q. (k : ℕ) × (k < n) × P k q) xs ys → Gains b (P n) ys zs → Gains b (λ q. (k : ℕ) × (k < n + 1) × P k q) xs zs
gains_turn b P n xs ys zs one two = record {
  list = two.list;
  kept = λ q on. two.kept q (one.kept q on);
  gained = λ q (k, low, is). elim (cases_eq k n) [
    | inl same ↦ two.gained q (subst (λ (m : ℕ). P m q) same is)
    | inr other ↦ let less : k < n = omega (arith, low, other) in two.kept q (one.gained q (k, less, is))
  ];
  only = λ q on. elim (two.only q on) [
    | inl before ↦ elim (one.only q before) [
      | inl old ↦ inl old
      | inr found ↦ let low : found.0 < n = found.1 in let more : found.0 < n + 1 = omega (arith, low) in inr (found.0, more, found.2)
    ]
    | inr now ↦ let last : n < n + 1 = omega arith in inr (n, last, now)
  ];
}

-- Each direction in turn

pub gains_next : (b : Stacks) (P : Dir → Place → Type 0) (n : ℕ) (xs ys zs : List Place) → Gains b (InFirst n P) xs ys → Gains b (P (dir_at n)) ys zs → Gains b (InFirst (n + 1) P) xs zs
gains_next b P = gains_turn b (λ k. P (dir_at k))

index_of : (d : Dir) → (k : ℕ) × (k < 6) × (dir_at k ≡ d)
index_of E = let low : 0 < 6 = omega arith in (0, low, refl)
index_of NE = let low : 1 < 6 = omega arith in (1, low, refl)
index_of NW = let low : 2 < 6 = omega arith in (2, low, refl)
index_of W = let low : 3 < 6 = omega arith in (3, low, refl)
index_of SW = let low : 4 < 6 = omega arith in (4, low, refl)
index_of SE = let low : 5 < 6 = omega arith in (5, low, refl)

pub gains_all : (b : Stacks) (P : Dir → Place → Type 0) (n : ℕ) (xs ys : List Place) → 6 ≤ n → Gains b (InFirst n P) xs ys → Gains b (InSome P) xs ys
gains_all b P n xs ys all = gains_same b (InSome P) (InFirst n P) xs ys
    (λ q (d, is).
    let (k, low, same) = index_of d in
    let within : k < n = omega (arith, low, all) in
    (k, within, subst (λ (e : Dir). P e q) (sym same) is))
    (λ q (k, _, is). (dir_at k, is))

-- a list that was empty has what it gained
pub gained_all : (b : Stacks) (S : Place → Type 0) (xs ys : List Place) → xs ≡ [] → Gains b S xs ys → AreAll S ys
gained_all b S xs ys none h = record {
  in_order = h.list.in_order;
  exact = λ q. (
    λ on. elim (h.only q on) [ inl old ↦ absurd (subst (λ zs. IsOn zs q) none old) | inr is ↦ is ],
    λ is. h.gained q is,
  );
}

-- Ground steps by their mask

pub slide_step : (b : Stacks) (p : Place) (m : ℕ) (d : Dir) (to : Place) {answer : Bool} → AreSlides b p m → answer ≡ has_dir m d → IsTrue answer → to ≡ step p d → GroundStep b p to
slide_step b p m d to are is set leads = subst (GroundStep b p) (sym leads) ((are d).0 (sym is ∙ set))

pub no_slide : (b : Stacks) (p : Place) (m : ℕ) (d : Dir) {answer : Bool} → AreSlides b p m → answer ≡ has_dir m d → answer ≡ false → GroundStep b p (step p d) → ⊥
no_slide b p m d are is unset ground = let wrong : false ≡ true = sym unset ∙ (is ∙ (are d).1 ground) in cc

-- where there is one there is room for its end, and a step on from there is within bounds
pub slide_room : (b : Stacks) (p : Place) (m : ℕ) (d : Dir) (to : Place) (xs : List Place) {answer : Bool} → IsAround b xs → AreSlides b p m → answer ≡ has_dir m d → IsTrue answer → to ≡ step p d → length (with_place to xs) ≤ 196
slide_room b p m d to xs h are is set leads = ground_room b p to xs h (slide_step b p m d to are is set leads)

-- where there is no ground step in a direction, a way that begins by it adds nothing
pub gains_no_slide : (b : Stacks) (S : Place → Place → Type 0) (p : Place) (d : Dir) (xs : List Place) → IsAround b xs → ((q : Place) → S p q → GroundStep b p q) → (GroundStep b p (step p d) → ⊥) → Gains b (Toward S p d) xs xs
gains_no_slide b S p d xs h by none = gains_no_step b S p d (step p d) xs h refl (λ is. absurd (none (by (step p d) is)))
