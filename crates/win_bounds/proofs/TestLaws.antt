-- The tests of being far from a win, and from a loss, hold if and only if the relations do.
use Rattle.std.proofs.Common.{◌≡◌, ℕ, ◌<◌, true, false, not, ◌||◌, ◌⊎◌, inl, inr, length, refl, sym, ◌∙◌, ap, subst, arith}
use Rattle.std.specs.Prelude.{Option, Some, None, nat_eq, nat_lt}
use Rattle.std.specs.List.{filter}
use Rattle.std.proofs.lemmas.Bool.{and_parts, and_from, or_cases, or_left, or_right, not-true, not_from_false, false_from_ne_true, ltb-true, lt-ltb, eqb-true, eq-eqb}
use Rattle.hive_model.specs.declared.pieces.Colour.{Colour}
use Rattle.hive_model.specs.declared.pieces.Kind.TheVariants.{Mosquito, Pillbug}
use Rattle.hive_model.specs.declared.places.Place.{Place}
use Rattle.hive_model.specs.declared.places.Spot.{Spot}
use Rattle.hive_model.specs.Pieces.{kind_of, colour_of, is_kind, is_colour, other_side, queen_of}
use Rattle.hive_model.specs.Places.{step, dirs, neighbours}
use Rattle.hive_model.specs.Boards.{Stacks, height_at, is_occupied, is_walled, top_at, spot_of}
use Rattle.hive_model.specs.Evaluation.{occupied_round}
use Rattle.hive_model.specs.Positions.{Position}
use Rattle.hive_model.proofs.PieceLaws.{same_kind, from_same_kind, same_colour, from_same_colour}
use Rattle.hive_model.proofs.RuleLaws.{any_has, has_any, all_at, at_all, dir_on}
use Rattle.win_bounds.specs.FarFromWin.{IsHole, IsBesideThrower, IsOutOfReach, IsFarFromWin, IsFarFromLoss, is_hole, has_hole, is_own_thrower, throws_in, is_beside_thrower, is_far_place, is_far_spot, is_home_spot, is_far_from_win, is_far_from_loss}

own_thrower_from : (c : Colour) (o : Option ℕ) → is_own_thrower c o ≡ true → (y : ℕ) × (o ≡ Some y) × (colour_of y ≡ c) × ((kind_of y ≡ Pillbug) ⊎ (kind_of y ≡ Mosquito))
own_thrower_from c None e = let wrong : false ≡ true = e in absurd (cc)
own_thrower_from c (Some y) e =
    let both = and_parts (is_colour (colour_of y) c) (is_kind (kind_of y) Pillbug || is_kind (kind_of y) Mosquito) e in
    let kind : (kind_of y ≡ Pillbug) ⊎ (kind_of y ≡ Mosquito) = elim (or_cases (is_kind (kind_of y) Pillbug) (is_kind (kind_of y) Mosquito) both.1) [
      | inl pillbug ↦ inl (same_kind (kind_of y) Pillbug pillbug)
      | inr mosquito ↦ inr (same_kind (kind_of y) Mosquito mosquito)
    ] in
    (y, refl, same_colour (colour_of y) c both.0, kind)

hole_from : (b : Stacks) (q : Place) → is_hole b q ≡ true → IsHole b q
hole_from b q e =
    let both = and_parts (nat_eq (height_at b q) 0) (is_walled b q) e in
    record { empty = eqb-true (height_at b q) 0 both.0; round = λ d. all_at (λ d. is_occupied b (step q d)) dirs d both.1 (dir_on d) }

from_hole : (b : Stacks) (q : Place) → IsHole b q → is_hole b q ≡ true
from_hole b q h = and_from _ _ (eq-eqb _ _ h.empty) (at_all (λ d. is_occupied b (step q d)) dirs (λ d _. h.round d))

pub beside_from : (b : Stacks) (c : Colour) (q : Place) → is_beside_thrower b c q ≡ true → IsBesideThrower b c q
beside_from b c q e =
    let r = any_has (λ d. throws_in b c (step q d)) dirs e in
    let both = and_parts (is_own_thrower c (top_at b (step q r.0))) (has_hole b (step q r.0)) r.2 in
    let y = own_thrower_from c (top_at b (step q r.0)) both.0 in
    let way = any_has (λ d. is_hole b (step (step q r.0) d)) dirs both.1 in
    record { dir = r.0; thrower = y.0; stands = y.1; own = y.2; kind = y.3; way = way.0; hole = hole_from b (step (step q r.0) way.0) way.2 }

pub from_beside : (b : Stacks) (c : Colour) (q : Place) → IsBesideThrower b c q → is_beside_thrower b c q ≡ true
from_beside b c q h =
    let kind : (is_kind (kind_of h.thrower) Pillbug || is_kind (kind_of h.thrower) Mosquito) ≡ true = elim h.kind [
      | inl pillbug ↦ or_left (is_kind (kind_of h.thrower) Pillbug) _ (from_same_kind (kind_of h.thrower) Pillbug pillbug)
      | inr mosquito ↦ or_right (is_kind (kind_of h.thrower) Pillbug) _ (from_same_kind (kind_of h.thrower) Mosquito mosquito)
    ] in
    let own : is_own_thrower c (top_at b (step q h.dir)) ≡ true = ap (is_own_thrower c) h.stands ∙ and_from _ _ (from_same_colour (colour_of h.thrower) c h.own) kind in
    let hole : has_hole b (step q h.dir) ≡ true = has_any (λ d. is_hole b (step (step q h.dir) d)) dirs h.way (dir_on h.way) (from_hole b (step (step q h.dir) h.way) h.hole) in
    has_any (λ d. throws_in b c (step q d)) dirs h.dir (dir_on h.dir) (and_from _ _ own hole)

-- at the place of a queen
reach_from : (b : Stacks) (mover c : Colour) (s : Spot) → spot_of b (queen_of c) ≡ Some s → is_far_place b mover s.place ≡ true → IsOutOfReach b mover c
reach_from b mover c s at k =
    let count = length (filter (is_occupied b) (neighbours s.place)) in
    let both = and_parts (nat_lt count 5) (not (is_beside_thrower b mover s.place)) k in
    let low : count < 5 = ltb-true count 5 both.0 in
    record {
      few = omega (arith, low, ap (occupied_round b) at);
      unthrown = λ t here by.
          let same : t ≡ s = (let one : Some t ≡ Some s = sym here ∙ at in cc) in
          let beside : is_beside_thrower b mover s.place ≡ true = from_beside b mover s.place (subst (λ (u : Spot). IsBesideThrower b mover u.place) same by) in
          let wrong : true ≡ false = sym beside ∙ not-true _ both.1 in cc;
    }

from_reach : (b : Stacks) (mover c : Colour) (s : Spot) → spot_of b (queen_of c) ≡ Some s → IsOutOfReach b mover c → is_far_place b mover s.place ≡ true
from_reach b mover c s at h =
    let count = length (filter (is_occupied b) (neighbours s.place)) in
    let low : count < 5 = omega (arith, h.few, ap (occupied_round b) at) in
    and_from (nat_lt count 5) (not (is_beside_thrower b mover s.place)) (lt-ltb count 5 low)
    (not_from_false _ (false_from_ne_true _ (λ e. h.unthrown s at (beside_from b mover s.place e))))

pub far_from : (p : Position) → is_far_from_win p ≡ true → IsFarFromWin p
far_from p e = go (spot_of p.board (queen_of (other_side p.side))) refl e
  where
    go : (o : Option Spot) → spot_of p.board (queen_of (other_side p.side)) ≡ o → is_far_spot p.board p.side o ≡ true → IsFarFromWin p
    go None at k = record {
      few = omega (arith, ap (occupied_round p.board) at);
      unthrown = λ s here. let wrong : None ≡ Some s = sym at ∙ here in absurd (cc);
    }
    go (Some s) at k = reach_from p.board p.side (other_side p.side) s at k

pub from_far : (p : Position) → IsFarFromWin p → is_far_from_win p ≡ true
from_far p h = go (spot_of p.board (queen_of (other_side p.side))) refl
  where
    go : (o : Option Spot) → spot_of p.board (queen_of (other_side p.side)) ≡ o → is_far_spot p.board p.side o ≡ true
    go None at = refl
    go (Some s) at = from_reach p.board p.side (other_side p.side) s at h

pub safe_from : (p : Position) → is_far_from_loss p ≡ true → IsFarFromLoss p
safe_from p e = go (spot_of p.board (queen_of p.side)) refl e
  where
    go : (o : Option Spot) → spot_of p.board (queen_of p.side) ≡ o → is_home_spot p.board p.side o ≡ true → IsFarFromLoss p
    go None at k = let wrong : false ≡ true = k in absurd (cc)
    go (Some s) at k =
        let both = and_parts (nat_eq s.level 0) (is_far_place p.board p.side s.place) k in
        record { queen = s; stands = at; ground = eqb-true s.level 0 both.0; reach = reach_from p.board p.side p.side s at both.1 }

pub from_safe : (p : Position) → IsFarFromLoss p → is_far_from_loss p ≡ true
from_safe p h =
    ap (is_home_spot p.board p.side) h.stands
    ∙ and_from (nat_eq h.queen.level 0) (is_far_place p.board p.side h.queen.place) (eq-eqb h.queen.level 0 h.ground) (from_reach p.board p.side p.side h.queen h.stands h.reach)
