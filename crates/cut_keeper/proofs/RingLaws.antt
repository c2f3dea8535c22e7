-- What the mask of a ring says of its arcs.
use Rattle.std.proofs.Common.{◌≡◌, ◌≢◌, ℕ, ◌-◌, ◌/◌, ◌%◌, ◌<◌, ◌≤◌, bit_and, Bool, true, false, not, ◌&&◌, ◌||◌, refl, sym, ◌∙◌, ap, subst}
use Rattle.std.specs.Prelude.{IsTrue, nat_eq, nat_le, if◌then◌else◌}
use Rattle.std.specs.List.{list_all, list_any}
use Rattle.std.proofs.lemmas.Bool.{eqb-true, eq-eqb, leb-true, and_parts, and_from, not_from_false, not-true, ne_eqb}
use Rattle.hive_model.specs.declared.places.Place.{Place}
use Rattle.hive_model.specs.declared.places.Dir.{Dir}
use Rattle.hive_model.specs.declared.places.Dir.TheVariants.{E, NE, NW, W, SW, SE}
use Rattle.hive_model.specs.Places.{step, dirs, dir_before, is_place}
use Rattle.hive_model.proofs.RuleLaws.{any_has, has_any, all_at, at_all, dir_on, step_once}
use Rattle.hive_model.proofs.PlaceLemmas.{from_same_place, is_other_place}
use Rattle.arcs.specs.Masks.{arcs, how_many}
use Rattle.arcs.proofs.EachMask.{same_at}
use Rattle.hive_model.specs.Boards.{Stacks, is_occupied}
use Rattle.hive_model.specs.Hive.{except}
use Rattle.arcs.specs.Arcs.{OneArc}
use Rattle.hive_model.specs.Neighbours.{weight, ring, ring_mask}
use Rattle.cut_keeper.specs.Rings.{turn, is_suspect, is_dir, starts, is_arc, off}
use Rattle.cut_keeper.specs.Keeping.{suspects}

-- Directions by their numbers

abbrev dir_at : ℕ → Dir
dir_at n = if nat_eq n 0 then E else if nat_eq n 1 then NE else if nat_eq n 2 then NW else if nat_eq n 3 then W else if nat_eq n 4 then SW else SE

dir_turn : (d : Dir) → dir_at (turn d) ≡ d
dir_turn E = refl
dir_turn NE = refl
dir_turn NW = refl
dir_turn W = refl
dir_turn SW = refl
dir_turn SE = refl

pub same_dir : (d e : Dir) → is_dir d e ≡ true → d ≡ e
same_dir d e h = sym (dir_turn d) ∙ ap dir_at (eqb-true _ _ h) ∙ dir_turn e

pub from_same_dir : (d e : Dir) → d ≡ e → is_dir d e ≡ true
from_same_dir d e h = eq-eqb _ _ (ap turn h)

-- All rings

every : (Bool → Bool) → Bool
every t = t true && t false

every_at : (t : Bool → Bool) → every t ≡ true → (b : Bool) → t b ≡ true
unfolding every
every_at t h true = (and_parts _ _ h).0
every_at t h false = (and_parts _ _ h).1

abbrev six : Bool → Bool → Bool → Bool → Bool → Bool → Dir → Bool
six a b c d e f E = a
six a b c d e f NE = b
six a b c d e f NW = c
six a b c d e f W = d
six a b c d e f SW = e
six a b c d e f SE = f

six_is : (r : Dir → Bool) → six (r E) (r NE) (r NW) (r W) (r SW) (r SE) ≡ r
six_is r = λ i d. at d i
  where
    at : (d : Dir) → six (r E) (r NE) (r NW) (r W) (r SW) (r SE) d ≡ r d
    at E = refl
    at NE = refl
    at NW = refl
    at W = refl
    at SW = refl
    at SE = refl

abbrev every_ring : ((Dir → Bool) → Bool) → Bool
every_ring t = every (λ a. every (λ b. every (λ c. every (λ d. every (λ e. every (λ f. t (six a b c d e f)))))))

ring_at : (t : (Dir → Bool) → Bool) → every_ring t ≡ true → (r : Dir → Bool) → t r ≡ true
ring_at t h r =
    let one = every_at (λ a. every (λ b. every (λ c. every (λ d. every (λ e. every (λ f. t (six a b c d e f))))))) h (r E) in
    let two = every_at (λ b. every (λ c. every (λ d. every (λ e. every (λ f. t (six (r E) b c d e f)))))) one (r NE) in
    let three = every_at (λ c. every (λ d. every (λ e. every (λ f. t (six (r E) (r NE) c d e f))))) two (r NW) in
    let four = every_at (λ d. every (λ e. every (λ f. t (six (r E) (r NE) (r NW) d e f)))) three (r W) in
    let five = every_at (λ e. every (λ f. t (six (r E) (r NE) (r NW) (r W) e f))) four (r SW) in
    let all = every_at (λ f. t (six (r E) (r NE) (r NW) (r W) (r SW) f)) five (r SE) in
    subst (λ s. t s ≡ true) (six_is r) all

abbrev bool_eq : Bool → Bool → Bool
bool_eq true b = b
bool_eq false b = not b

same_bool : (a b : Bool) → bool_eq a b ≡ true → a ≡ b
same_bool true true h = refl
same_bool true false h = sym h
same_bool false true h = h
same_bool false false h = refl

-- the mask has one arc exactly if the ring has
arcs_test : (Dir → Bool) → Bool
arcs_test r = bool_eq (nat_eq (arcs (ring_mask r)) 1) (is_arc r)

arcs_all : every_ring arcs_test ≡ true
unfolding every arcs_test
arcs_all = refl

pub arcs_ring : (r : Dir → Bool) → nat_eq (arcs (ring_mask r)) 1 ≡ is_arc r
unfolding arcs_test
arcs_ring r = same_bool _ _ (ring_at arcs_test arcs_all r)

-- and likewise after a neighbour is gone
off_test : (Dir → Bool) → Bool
off_test r = list_all (λ d. not (r d) || bool_eq (nat_eq (arcs (ring_mask r - weight d)) 1) (is_arc (off r d))) dirs

off_all : every_ring off_test ≡ true
unfolding every off_test
off_all = refl

or_second : (a b : Bool) → (not a || b) ≡ true → a ≡ true → b ≡ true
or_second true b h e = h
or_second false b h e = absurd (let wrong : false ≡ true = e in cc)

pub arcs_off : (r : Dir → Bool) (d : Dir) → r d ≡ true → nat_eq (arcs (ring_mask r - weight d)) 1 ≡ is_arc (off r d)
unfolding off_test
arcs_off r d on =
    let at = all_at (λ d. not (r d) || bool_eq (nat_eq (arcs (ring_mask r - weight d)) 1) (is_arc (off r d))) dirs d (ring_at off_test off_all r) (dir_on d) in
    same_bool _ _ (or_second (r d) _ at on)

-- beside one arc there are at most three suspects
few_test : (Dir → Bool) → Bool
few_test r = not (is_arc r) || nat_le (how_many (is_suspect r) dirs) 3

few_all : every_ring few_test ≡ true
unfolding every few_test
few_all = refl

pub few_suspects : (r : Dir → Bool) → is_arc r ≡ true → how_many (is_suspect r) dirs ≤ 3
unfolding few_test
few_suspects r h = leb-true _ _ (or_second (is_arc r) _ (ring_at few_test few_all r) h)

-- a mask of one neighbour, and a neighbour that is not the only one
only_test : (Dir → Bool) → Bool
only_test r = list_all (λ d. not (nat_eq (ring_mask r) (weight d)) || (r d && list_all (λ e. not (r e) || is_dir e d) dirs)) dirs

only_all : every_ring only_test ≡ true
unfolding every only_test
only_all = refl

pub only_from : (r : Dir → Bool) (d : Dir) → ring_mask r ≡ weight d → (r d ≡ true) × ((e : Dir) → r e ≡ true → e ≡ d)
unfolding only_test
only_from r d one =
    let at = all_at (λ d. not (nat_eq (ring_mask r) (weight d)) || (r d && list_all (λ e. not (r e) || is_dir e d) dirs)) dirs d (ring_at only_test only_all r) (dir_on d) in
    let both = and_parts (r d) _ (or_second _ _ at (eq-eqb _ _ one)) in
    (both.0, λ e on. same_dir e d (or_second _ _ (all_at (λ e. not (r e) || is_dir e d) dirs e both.1 (dir_on e)) on))

another_test : (Dir → Bool) → Bool
another_test r = list_all (λ d. not (r d) || (not (not (nat_eq (ring_mask r) (weight d))) || list_any (λ e. r e && not (is_dir e d)) dirs)) dirs

another_all : every_ring another_test ≡ true
unfolding every another_test
another_all = refl

pub another_from : (r : Dir → Bool) (d : Dir) → ring_mask r ≢ weight d → r d ≡ true → (e : Dir) × (r e ≡ true) × (e ≢ d)
unfolding another_test
another_from r d more on =
    let at = all_at (λ d. not (r d) || (not (not (nat_eq (ring_mask r) (weight d))) || list_any (λ e. r e && not (is_dir e d)) dirs)) dirs d (ring_at another_test another_all r) (dir_on d) in
    let any = or_second _ _ (or_second _ _ at on) (not_from_false _ (ne_eqb (ring_mask r) (weight d) more)) in
    let found = any_has (λ e. r e && not (is_dir e d)) dirs any in
    let both = and_parts (r found.0) _ found.2 in
    (found.0, both.0, λ same. let wrong : false ≡ true = sym (not-true _ both.1) ∙ from_same_dir found.0 d same in cc)

small_test : (Dir → Bool) → Bool
small_test r = nat_le (ring_mask r) 63 && list_all (λ d. not (r d) || nat_le (weight d) (ring_mask r)) dirs

small_all : every_ring small_test ≡ true
unfolding every small_test
small_all = refl

pub small_mask : (r : Dir → Bool) → ring_mask r ≤ 63
unfolding small_test
small_mask r = leb-true _ _ (and_parts _ _ (ring_at small_test small_all r)).0

-- the bits of a mask are those of its ring
bit_test : (Dir → Bool) → Bool
bit_test r = list_all (λ d. bool_eq (not (nat_eq (bit_and (ring_mask r) (weight d)) 0)) (r d)) dirs

bit_all : every_ring bit_test ≡ true
unfolding every bit_test
bit_all = refl

pub bit_at : (r : Dir → Bool) (d : Dir) → not (nat_eq (bit_and (ring_mask r) (weight d)) 0) ≡ r d
unfolding bit_test
bit_at r d = same_bool _ _ (all_at (λ d. bool_eq (not (nat_eq (bit_and (ring_mask r) (weight d)) 0)) (r d)) dirs d (ring_at bit_test bit_all r) (dir_on d))

pub bit_most : (r : Dir → Bool) (d : Dir) → r d ≡ true → weight d ≤ ring_mask r
unfolding small_test
bit_most r d on =
    leb-true _ _ (or_second (r d) _ (all_at (λ d. not (r d) || nat_le (weight d) (ring_mask r)) dirs d (and_parts _ _ (ring_at small_test small_all r)).1 (dir_on d)) on)

-- each mask below 64 has a ring
abbrev pub ring_of : ℕ → Dir → Bool
ring_of m d = nat_eq (m / weight d % 2) 1

pub ring_of_mask : (m : ℕ) → m < 64 → ring_mask (ring_of m) ≡ m
ring_of_mask m below = same_at (λ m. ring_mask (ring_of m)) (λ m. m) refl m below

-- One arc, by its test

starts_parts : (r : Dir → Bool) (d : Dir) → starts r d ≡ true → (r d ≡ true) × (r (dir_before d) ≡ false)
starts_parts r d h = let parts = and_parts (r d) (not (r (dir_before d))) h in (parts.0, not-true _ parts.1)

starts_from : (r : Dir → Bool) (d : Dir) → r d ≡ true → r (dir_before d) ≡ false → starts r d ≡ true
starts_from r d on before = and_from (r d) _ on (not_from_false _ before)

pub arc_from : (o : Place → Bool) (p : Place) → is_arc (ring o p) ≡ true → OneArc o p
arc_from o p h =
    let r = ring o p in
    let found = any_has (λ f. starts r f && list_all (λ d. not (starts r d) || is_dir d f) dirs) dirs h in
    let parts = and_parts (starts r found.0) _ found.2 in
    let first = starts_parts r found.0 parts.0 in
    record {
      first = found.0;
      here = first.0;
      before = first.1;
      only = λ d on before.
          let at = all_at (λ d. not (starts r d) || is_dir d found.0) dirs d parts.1 (dir_on d) in
          same_dir d found.0 (or_second (starts r d) _ at (starts_from r d on before));
    }

pub from_arc : (o : Place → Bool) (p : Place) → OneArc o p → is_arc (ring o p) ≡ true
from_arc o p arc =
    let r = ring o p in
    has_any (λ f. starts r f && list_all (λ d. not (starts r d) || is_dir d f) dirs) dirs arc.first (dir_on arc.first)
    (and_from (starts r arc.first) _ (starts_from r arc.first arc.here arc.before) (at_all (λ d. not (starts r d) || is_dir d arc.first) dirs (λ d _.
    elim (starts r d) as (λ t. starts r d ≡ t → (not t || is_dir d arc.first) ≡ true) [
      | true ↦ λ e. let parts = starts_parts r d e in from_same_dir d arc.first (arc.only d parts.0 parts.1)
      | false ↦ λ _. refl
    ] refl)))

-- the ring except a neighbour
ring_off : (o : Place → Bool) (p : Place) (d : Dir) → ring (except o (step p d)) p ≡ off (ring o p) d
ring_off o p d = λ i e. at e i
  where
    at : (e : Dir) → (not (is_place (step p d) (step p e)) && o (step p e)) ≡ (not (is_dir d e) && o (step p e))
    at e = elim (is_dir d e) as (λ t. is_dir d e ≡ t → (not (is_place (step p d) (step p e)) && o (step p e)) ≡ (not t && o (step p e))) [
      | true ↦ λ h. ap (λ t. not t && o (step p e)) (from_same_place _ _ (ap (step p) (same_dir d e h)))
      | false ↦ λ h. ap (λ t. not t && o (step p e)) (is_other_place _ _ (λ s. let wrong : false ≡ true = sym h ∙ from_same_dir d e (step_once p d e s) in cc))
    ] refl

-- a neighbour that is no suspect leaves one arc when it is gone
pub arc_unsuspected : (o : Place → Bool) (p : Place) (d : Dir) → IsTrue (o (step p d)) → is_suspect (ring o p) d ≡ false → OneArc (except o (step p d)) p
arc_unsuspected o p d on h =
    let r = ring o p in
    let one : nat_eq (arcs (ring_mask r - weight d)) 1 ≡ true = (elim (nat_eq (arcs (ring_mask r - weight d)) 1) as (λ t. (r d && not t) ≡ false → t ≡ true) [
      | true ↦ λ _. refl
      | false ↦ λ k. sym k ∙ ap (λ t. t && true) on
    ] h) in
    let is : is_arc (off r d) ≡ true = sym (arcs_off r d on) ∙ one in
    arc_from (except o (step p d)) p (ap is_arc (ring_off o p d) ∙ is)

-- A mask on a board

pub arc_mask : (c : Stacks) (p : Place) (m : ℕ) → m ≡ ring_mask (ring (is_occupied c) p) → arcs m ≡ 1 → OneArc (is_occupied c) p
arc_mask c p m is one = arc_from (is_occupied c) p (sym (arcs_ring (ring (is_occupied c) p)) ∙ eq-eqb _ _ (ap arcs (sym is) ∙ one))

pub three_suspects : (c : Stacks) (p : Place) → OneArc (is_occupied c) p → suspects c p dirs ≤ 3
three_suspects c p arc = few_suspects (ring (is_occupied c) p) (from_arc (is_occupied c) p arc)

pub suspect_occupied : (b : Stacks) (p : Place) (d : Dir) → is_suspect (ring (is_occupied b) p) d ≡ true → IsTrue (is_occupied b (step p d))
suspect_occupied b p d h = (and_parts (is_occupied b (step p d)) _ h).0
