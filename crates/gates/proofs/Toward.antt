-- A ground step in a direction that is known.
use Rattle.std.proofs.Common.{◌≡◌, ℕ, Bool, max, not, arith, true, false, ◌&&◌, refl, sym, ◌∙◌, subst, ap}
use Rattle.std.specs.Prelude.{nat_eq, nat_lt}
use Rattle.std.proofs.lemmas.Bool.{and_parts, and_from, eq-eqb}
use Rattle.hive_model.specs.declared.places.Place.{Place}
use Rattle.hive_model.specs.declared.places.Dir.{Dir}
use Rattle.hive_model.specs.Places.{step, dirs, dir_before, dir_after, is_place}
use Rattle.hive_model.specs.Boards.{Stacks, height_at, is_occupied}
use Rattle.hive_model.specs.Neighbours.{ring}
use Rattle.hive_model.proofs.CopyLaws.{not_occupied}
use Rattle.gates.specs.Beside.{is_beside_one}
use Rattle.gates.specs.Slides.{AreSlides, has_dir, slides}
use Rattle.hive_model.specs.Steps.{GroundStep, FreeStep, ground_at, is_blocked}
use Rattle.hive_model.proofs.PlaceLemmas.{same_place, from_same_place}
use Rattle.hive_model.proofs.RuleLaws.{any_has, has_any, dir_on, step_once, ground_from, from_ground}

pub toward_from : (b : Stacks) (p : Place) (d : Dir) (q : Place) → q ≡ step p d → ground_at b p d ≡ true → GroundStep b p q
toward_from b p d q leads h = ground_from b p q (has_any (λ e. is_place (step p e) q && ground_at b p e) dirs d (dir_on d) (and_from _ _ (from_same_place (step p d) q (sym leads)) h))

pub from_toward : (b : Stacks) (p : Place) (d : Dir) (q : Place) → q ≡ step p d → GroundStep b p q → ground_at b p d ≡ true
from_toward b p d q leads h =
    let found = any_has (λ e. is_place (step p e) q && ground_at b p e) dirs (from_ground b p q h) in
    let parts = and_parts (is_place (step p found.0) q) _ found.2 in
    subst (λ e. ground_at b p e ≡ true) (step_once p found.0 d (same_place (step p found.0) q parts.0 ∙ leads)) parts.1

none_there : (n : ℕ) → not (nat_lt 0 n) ≡ nat_eq n 0
none_there n = grind arith

-- from an empty place the ground steps are those that its ring tells
slides_at : (b : Stacks) (p : Place) (d : Dir) → is_occupied b p ≡ false → slides (ring (is_occupied b) p) d ≡ ground_at b p d
slides_at b p d free =
    ap (λ t. t && is_beside_one b p d) (none_there (height_at b (step p d)))
    ∙ ap (λ t. t && (nat_eq (height_at b (step p d)) 0 && is_beside_one b p d)) (sym (eq-eqb (height_at b p) 0 (not_occupied b p free)))

pub slides_amid_ring : (b : Stacks) (p : Place) (m : ℕ) → is_occupied b p ≡ false → ((d : Dir) → has_dir m d ≡ slides (ring (is_occupied b) p) d) → AreSlides b p m
slides_amid_ring b p m free same d = (
  λ h. toward_from b p d (step p d) refl (sym (slides_at b p d free) ∙ (sym (same d) ∙ h)),
  λ g. same d ∙ (slides_at b p d free ∙ from_toward b p d (step p d) refl g),
)

-- A step that is not blocked in a direction that is known

pub free_toward : (b : Stacks) (p : Place) (d : Dir) (q : Place) → q ≡ step p d → is_blocked b p d ≡ false → FreeStep b p q
free_toward b p d q leads h = record { dir = d; leads = sym leads; free = h }

pub toward_free : (b : Stacks) (p : Place) (d : Dir) (q : Place) → q ≡ step p d → FreeStep b p q → is_blocked b p d ≡ false
toward_free b p d q leads h = subst (λ e. is_blocked b p e ≡ false) (step_once p h.dir d (h.leads ∙ leads)) h.free

-- beside an empty place no step is blocked

none_higher : (m n : ℕ) → n ≡ 0 → nat_lt m n ≡ false
none_higher m n none = grind (arith, none)

and_none : (s t : Bool) → t ≡ false → s && t ≡ false
and_none true t none = none
and_none false t none = refl

pub free_before : (b : Stacks) (p : Place) (d : Dir) → is_occupied b (step p (dir_before d)) ≡ false → is_blocked b p d ≡ false
free_before b p d free =
    ap (λ t. t && nat_lt (max (height_at b p) (height_at b (step p d))) (height_at b (step p (dir_after d))))
    (none_higher (max (height_at b p) (height_at b (step p d))) (height_at b (step p (dir_before d))) (not_occupied b (step p (dir_before d)) free))

pub free_after : (b : Stacks) (p : Place) (d : Dir) → is_occupied b (step p (dir_after d)) ≡ false → is_blocked b p d ≡ false
free_after b p d free =
    and_none (nat_lt (max (height_at b p) (height_at b (step p d))) (height_at b (step p (dir_before d)))) _
    (none_higher (max (height_at b p) (height_at b (step p d))) (height_at b (step p (dir_after d))) (not_occupied b (step p (dir_after d)) free))
