-- The test of a cut place holds exactly if its relation does.
use Rattle.std.proofs.Common.{◌≡◌, ℕ, ◌<◌, Bool, true, false, not, ◌&&◌, List, [], refl, sym, ◌∙◌, ap, subst, arith, length, cond}
use Rattle.std.specs.Prelude.{nat_eq, nat_lt}
use Rattle.std.proofs.lemmas.Bool.{eqb-true, eq-eqb, lt-ltb, and_parts, and_from, not-true, not_from_false, false_from_ne_true}
use Rattle.hive_model.specs.declared.places.Place.{Place}
use Rattle.hive_model.specs.Places.{is_place}
use Rattle.hive_model.specs.Boards.{Stacks, height_at, cleared, IsBoard, is_occupied, stack_at}
use Rattle.hive_model.specs.Hive.{OneHive, IsCut, is_one, is_cut, OneHiveOn, except}
use Rattle.hive_model.proofs.BoardLemmas.{stacks-set_stack, stack_at-cleared}
use Rattle.hive_model.proofs.NearLaws.{one_hive_from, from_one_hive}

-- the occupied places of the board without those of a place
pub occupied_cleared : (b : Stacks) (q r : Place) → is_occupied (cleared b q) r ≡ except (is_occupied b) q r
occupied_cleared b q r = ap (λ xs. nat_lt 0 (length xs)) (stack_at-cleared b q r) ∙ parts (not (is_place q r)) (stack_at b r)
  where
    parts : (t : Bool) (xs : List ℕ) → nat_lt 0 (length (cond t xs [])) ≡ (t && nat_lt 0 (length xs))
    parts true xs = refl
    parts false xs = refl

-- the board without a place is one hive exactly if the set without it is
pub cleared_to : (b : Stacks) (q : Place) → OneHive (cleared b q) → OneHiveOn (except (is_occupied b) q)
cleared_to b q h = subst OneHiveOn (λ i r. occupied_cleared b q r i) h

pub to_cleared : (b : Stacks) (q : Place) → OneHiveOn (except (is_occupied b) q) → OneHive (cleared b q)
to_cleared b q h =
    let turned : (r : Place) → except (is_occupied b) q r ≡ is_occupied (cleared b q) r = (λ r. sym (occupied_cleared b q r)) in
    subst OneHiveOn (λ i r. turned r i) h

-- the test of the board without a place's pieces
pub separates_from : (b : Stacks) → IsBoard b → (p : Place) → is_one (cleared b p) ≡ false → ¬ OneHiveOn (except (is_occupied b) p)
separates_from b is p e one = let wrong : true ≡ false = sym (from_one_hive (cleared b p) (stacks-set_stack b p [] is.stacks) (to_cleared b p one)) ∙ e in cc

pub from_separates : (b : Stacks) → IsBoard b → (p : Place) → (¬ OneHiveOn (except (is_occupied b) p)) → is_one (cleared b p) ≡ false
from_separates b is p h = false_from_ne_true _ (λ one. h (cleared_to b p (one_hive_from (cleared b p) (stacks-set_stack b p [] is.stacks) one)))

pub cut_from : (b : Stacks) → IsBoard b → (p : Place) → is_cut b p ≡ true → IsCut b p
cut_from b is p e =
    let both = and_parts (nat_eq (height_at b p) 1) (not (is_one (cleared b p))) e in
    let alone : height_at b p ≡ 1 = eqb-true _ _ both.0 in
    let high : 0 < height_at b p = omega (arith, alone) in
    record { alone = alone; separates = (lt-ltb _ _ high, separates_from b is p (not-true _ both.1)) }

pub from_cut : (b : Stacks) → IsBoard b → (p : Place) → IsCut b p → is_cut b p ≡ true
from_cut b is p h = and_from _ _ (eq-eqb _ _ h.alone) (not_from_false _ (from_separates b is p h.separates.1))
