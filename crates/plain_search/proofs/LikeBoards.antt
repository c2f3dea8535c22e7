-- Boards with equal heights that differ in the pieces on one place only.
use Rattle.std.proofs.Common.{◌≡◌, ◌≢◌, ℕ, Bool, true, false, cond, not, ◌&&◌, List, [], ◌∷◌, ◌++◌, length, take, inl, inr, refl, sym, ◌∙◌, ap, subst, if◌then◌else◌, length-append}
use Rattle.std.specs.Prelude.{Some, nat_eq, nat_lt}
use Rattle.std.specs.List.{filter, position, list_all, flat_map}
use Rattle.std.specs.FinMap.Entries.{put as put_entry, by_order}
use Rattle.std.specs.declared.cmp.Ordering.TheVariants.{Less, Equal, Greater}
use Rattle.hive_model.specs.declared.places.Place.{Place}
use Rattle.hive_model.specs.declared.places.Spot.{Spot}
use Rattle.hive_model.specs.Lists.{flood}
use Rattle.hive_model.specs.Places.{place_cmp, is_place, neighbours, origin}
use Rattle.hive_model.specs.Boards.{Stacks, stack_at, height_at, is_occupied, top_of, top_at, places_of, spot_here, spot_among, spot_of, put, cleared, set_stack, lift, lift_from}
use Rattle.hive_model.specs.Hive.{are_neighbours, all_met, is_one, is_cut}
use Rattle.hive_model.specs.Near.{near, with_place, placed_by, in_order}
use Rattle.hive_model.proofs.PlaceLemmas.{is_other_place, cases_place}
use Rattle.hive_model.proofs.BoardLemmas.{stack_at-put, stack_at-set_stack}

-- the boards have the same places, each as high on the one as on the other, and the same pieces on
-- all of them but one
pub record AreLike (q : Place) (b c : Stacks) : Type 0 where
  pub places : places_of b ≡ places_of c
  pub heights : (r : Place) → height_at b r ≡ height_at c r
  pub others : (r : Place) → r ≢ q → stack_at b r ≡ stack_at c r

-- The places of a board that is changed

places_put : (q : Place) (xs : List ℕ) (b : Stacks) → places_of (put_entry place_cmp q xs b) ≡ with_place q (places_of b)
places_put q xs [] = refl
places_put q xs (e ∷ b) =
    elim (place_cmp q e.0) as (λ o. places_of (by_order o ((q, xs) ∷ e ∷ b) ((e.0, xs) ∷ b) (e ∷ put_entry place_cmp q xs b)) ≡ placed_by o q e.0 (places_of b) (with_place q (places_of b))) [
      | Less ↦ refl
      | Equal ↦ refl
      | Greater ↦ ap (λ ps. e.0 ∷ ps) (places_put q xs b)
    ]

places_cleared : (q : Place) (b : Stacks) → places_of (cleared b q) ≡ filter (λ r. not (is_place q r)) (places_of b)
places_cleared q [] = refl
places_cleared q (e ∷ b) =
    elim (is_place q e.0) as (λ t. places_of (if not t then e ∷ cleared b q else cleared b q) ≡ (if not t then e.0 ∷ filter (λ r. not (is_place q r)) (places_of b) else filter (λ r. not (is_place q r)) (places_of b))) [
      | true ↦ places_cleared q b
      | false ↦ ap (λ ps. e.0 ∷ ps) (places_cleared q b)
    ]

-- One piece or another on a place

module _ (d : Stacks) (q : Place) (x y : ℕ) where
  as_high : (t : Bool) (r : Place) → length (cond t (stack_at d q ++ x ∷ []) (stack_at d r)) ≡ length (cond t (stack_at d q ++ y ∷ []) (stack_at d r))
  as_high true r = length-append (stack_at d q) (x ∷ []) ∙ sym (length-append (stack_at d q) (y ∷ []))
  as_high false r = refl

  elsewhere : (z : ℕ) (r : Place) → r ≢ q → stack_at (put d z q) r ≡ stack_at d r
  elsewhere z r apart = stack_at-put d z q r ∙ ap (λ t. cond t (stack_at d q ++ z ∷ []) (stack_at d r)) (is_other_place r q apart)

  pub put_like : AreLike q (put d x q) (put d y q)
  put_like = record {
    places = places_put q (stack_at d q ++ x ∷ []) d ∙ sym (places_put q (stack_at d q ++ y ∷ []) d);
    heights = λ r. ap length (stack_at-put d x q r) ∙ as_high (is_place r q) r ∙ sym (ap length (stack_at-put d y q r));
    others = λ r apart. elsewhere x r apart ∙ sym (elsewhere y r apart);
  }

module _ (q : Place) (b c : Stacks) (k : AreLike q b c) where
  pub occupied : (r : Place) → is_occupied b r ≡ is_occupied c r
  occupied r = ap (nat_lt 0) (k.heights r)

  pub tops : (r : Place) → r ≢ q → top_at b r ≡ top_at c r
  tops r apart = ap top_of (k.others r apart)

  -- Separating places

  one_same : (d e : Stacks) → places_of d ≡ places_of e → is_one d ≡ is_one e
  one_same d e same = ap (λ ps. list_all (λ p. all_met ps (p ∷ flood are_neighbours (length ps) (p ∷ []) ps)) ps) same

  cleared_same : (r : Place) → places_of (cleared b r) ≡ places_of (cleared c r)
  cleared_same r = places_cleared r b ∙ ap (filter (λ p. not (is_place r p))) k.places ∙ sym (places_cleared r c)

  pub cut_same : (r : Place) → is_cut b r ≡ is_cut c r
  cut_same r = let one = one_same (cleared b r) (cleared c r) (cleared_same r) in λ i. nat_eq (k.heights r i) 1 && not (one i)

  -- A piece that is lifted from another place

  places_set : (r : Place) (xs : List ℕ) → places_of (set_stack b r xs) ≡ places_of (set_stack c r xs)
  places_set r [] = cleared_same r
  places_set r (x ∷ xs) = places_put r (x ∷ xs) b ∙ ap (with_place r) k.places ∙ sym (places_put r (x ∷ xs) c)

  still_high : (xs : List ℕ) (t : Bool) (p : Place) → length (cond t xs (stack_at b p)) ≡ length (cond t xs (stack_at c p))
  still_high xs true p = refl
  still_high xs false p = k.heights p

  set_like : (r : Place) (xs : List ℕ) → AreLike q (set_stack b r xs) (set_stack c r xs)
  set_like r xs = record {
    places = places_set r xs;
    heights = λ p. ap length (stack_at-set_stack b r xs p) ∙ still_high xs (is_place p r) p ∙ sym (ap length (stack_at-set_stack c r xs p));
    others = λ p apart. stack_at-set_stack b r xs p ∙ ap (cond (is_place p r) xs) (k.others p apart) ∙ sym (stack_at-set_stack c r xs p);
  }

  pub lift_like : (x : ℕ) (s : Spot) → spot_of b x ≡ Some s → spot_of c x ≡ Some s → s.place ≢ q → AreLike q (lift b x) (lift c x)
  lift_like x s first second apart =
      let here : AreLike q (lift_from b (Some s)) (lift_from c (Some s)) =
      subst (λ xs. AreLike q (set_stack b s.place (take s.level (stack_at b s.place))) (set_stack c s.place (take s.level xs))) (k.others s.place apart) (set_like s.place (take s.level (stack_at b s.place))) in
      subst (λ o. AreLike q (lift b x) (lift_from c o)) (sym second) (subst (λ o. AreLike q (lift_from b o) (lift_from c (Some s))) (sym first) here)

  -- Spots

  spots_among : (x : ℕ) → position (nat_eq x) (stack_at b q) ≡ position (nat_eq x) (stack_at c q) → (r : Place) → position (nat_eq x) (stack_at b r) ≡ position (nat_eq x) (stack_at c r)
  spots_among x here r = elim (cases_place r q) [
    | inl same ↦ subst (λ z. position (nat_eq x) (stack_at b z) ≡ position (nat_eq x) (stack_at c z)) (sym same) here
    | inr apart ↦ ap (position (nat_eq x)) (k.others r apart)
  ]

  along : (x : ℕ) → ((r : Place) → position (nat_eq x) (stack_at b r) ≡ position (nat_eq x) (stack_at c r)) → (ps : List Place) → spot_among b ps x ≡ spot_among c ps x
  along x each [] = refl
  along x each (p ∷ ps) = let more = along x each ps in λ i. spot_here p (each p i) (more i)

  -- a piece that is on neither stack keeps its spot
  pub spot_same : (x : ℕ) → position (nat_eq x) (stack_at b q) ≡ position (nat_eq x) (stack_at c q) → spot_of b x ≡ spot_of c x
  spot_same x here = along x (spots_among x here) (places_of b) ∙ ap (λ ps. spot_among c ps x) k.places

  pub near_same : near b ≡ near c
  near_same = ap (λ ps. in_order (origin ∷ ps ++ flat_map neighbours ps)) k.places
