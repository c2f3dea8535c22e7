-- What `put` and `lift` leave, in the terms of the code's reads and writes.
use Rattle.std.proofs.Common.{◌≡◌, ◌≢◌, ℕ, suc, zero, inl, inr, ◌*◌, ◌+◌, ◌≤◌, ◌<◌, ◌∙◌, refl, ap, sym, false, true, not, cond, None, Some, Option, List, [], ◌∷◌, length, subst, slice_set, Bool, arith}
use Rattle.std.specs.List.{list_all}
use Rattle.std.specs.Prelude.{replicate, nat_eq, nat_lt, if◌then◌else◌, is_none, slice_get, is_some, unwrap_or, IsNone, IsTrue}
use Rattle.std.proofs.lemmas.Bool.{eqb-true, lt-ltb}
use Rattle.std.proofs.lemmas.Option.{none-some, same_Some}
use Rattle.hive_model.specs.declared.places.Place.{Place}
use Rattle.hive_model.specs.declared.places.Spot.{Spot}
use Rattle.hive_model.specs.Boards.{Stacks, spot_of, is_on_top, is_top_spot, top_at, height_at, is_occupied, under_of, put, lift}
use Rattle.hive_model.specs.Spots.{Spots, IsSpots, HasSpot, board_of, height_by, spots_put, is_at}
use Rattle.hive_model.proofs.SpotLemmas.{lemma_board, board_has, height_is, spots_put_is, board_of-put, spots_lift_is, board_of-lift, absent_is, on_top_is, spot_is, no_spots}
use Rattle.hive_model.proofs.GetLemmas.{get_exists}
use Rattle.hive_model.proofs.LiftLemmas as lifts
use Rattle.hive_model.proofs.PlaceLemmas.{is_other_place}
use Rattle.hive_model.specs.Spread.{IsNearAll, IsSpread}
use Rattle.hive_model.specs.Places.{IsWithin, origin}
use Rattle.torus_board.specs.declared.rings.Ring.{Ring}
use Rattle.torus_board.specs.declared.towers.Tower.{Tower}
use Rattle.torus_board.specs.Grid.{IsSide, HasTowers, IsLinked, IsRinged, IsTurned}
use Rattle.torus_board.proofs.RingLaws.{empty_ringed}
use Rattle.torus_board.proofs.TowerLaws.{tower_of, towers_put, towers_lift, empty_towers, height_apart}
use Rattle.torus_board.specs.Residues.{cell_of}
use Rattle.torus_board.proofs.Links.{put_height, linked_put, spread_put, linked_lift, spread_lift, empty_spread}

-- a height is no more than the number of the pieces
pub height_low : (s : Spots) (p : Place) → height_by s p ≤ length s
height_low [] p = omega arith
height_low (o ∷ s) p = at (is_at p o) (height_low s p)
  where
    at : (t : Bool) → height_by s p ≤ length s → cond t (1 + height_by s p) (height_by s p) ≤ suc (length s)
    at true h = omega (arith, h)
    at false h = omega (arith, h)

none_is : (o : Option Spot) → is_some o ≡ false → o ≡ None
none_is None e = refl
none_is (Some t) e = let wrong : true ≡ false = e in absurd (cc)

opened : (o : Option (Option Spot)) (t : Spot) → unwrap_or o None ≡ Some t → o ≡ Some (Some t)
opened None t h = absurd (none-some _ h)
opened (Some u) t h = ap Some h

some_height : (k : ℕ) → 0 < k → nat_lt 0 k ≡ true
some_height k h = lt-ltb 0 k h

some_number : (h : ℕ) → nat_eq h 0 ≡ false → 0 < h
some_number h high = let above : h ≢ 0 = (λ e. let wrong : true ≡ false = sym (ap (λ k. nat_eq k 0) e) ∙ high in cc) in omega (arith, above)

-- a place that is occupied now, and had this height
was_low : (h k : ℕ) → h ≡ k → (if nat_eq h 0 then not (nat_lt 0 k) else nat_lt 0 k) ≡ true
was_low h k e = at (nat_eq h 0) refl
  where
    at : (t : Bool) → nat_eq h 0 ≡ t → (if t then not (nat_lt 0 k) else nat_lt 0 k) ≡ true
    at true low = ap (λ j. not (nat_lt 0 j)) (sym e ∙ eqb-true h 0 low)
    at false high = some_height k (subst (λ j. 0 < j) e (some_number h high))

-- a place that was occupied, and has this height
now_low : (h : ℕ) (t : Bool) → t ≡ true → nat_lt 0 h ≡ (if nat_eq h 0 then not t else t)
now_low h t on = at (nat_eq h 0) refl
  where
    at : (u : Bool) → nat_eq h 0 ≡ u → nat_lt 0 h ≡ (if u then not t else t)
    at true low = ap (nat_lt 0) (eqb-true h 0 low) ∙ sym (ap not on)
    at false high = some_height h (some_number h high) ∙ sym on

-- the invariant of a grid, but for its rings
abbrev pub Kept : ℕ → Spots → List (Option ℕ) → List Tower → Type 0
Kept n s below towers = (32 ≤ n) × (n ≤ 128) × IsSpots s × IsLinked (board_of s) below × IsSpread n (board_of s) × HasTowers n (board_of s) towers

-- with its rings
abbrev pub Whole : ℕ → Spots → List (Option ℕ) → List Tower → List Ring → Type 0
Whole n s below towers rings = (32 ≤ n) × (n ≤ 128) × IsSpots s × IsLinked (board_of s) below × IsSpread n (board_of s) × HasTowers n (board_of s) towers × IsRinged n (board_of s) rings

pub but_rings : {n : ℕ} {s : Spots} {below : List (Option ℕ)} {towers : List Tower} {rings : List Ring} → Whole n s below towers rings → Kept n s below towers
but_rings w = (w.0, w.1, w.2, w.3, w.4, w.5)

pub and_rings : {n : ℕ} {s : Spots} {below : List (Option ℕ)} {towers : List Tower} {rings : List Ring} → Kept n s below towers → IsRinged n (board_of s) rings → Whole n s below towers rings
and_rings k r = (k.0, k.1, k.2, k.3, k.4, k.5, r)

module _ (n : ℕ) (s : Spots) (below : List (Option ℕ)) (towers : List Tower) (is : Kept n s below towers) (b : Stacks) (view : board_of s ≡ b) (x : ℕ) (small : x < 28) where
  some : 0 < n
  some = let wide = is.0 in omega (arith, wide)

  module _ (p : Place) (absent : IsNone (spot_of b x)) (within : IsWithin 9000 p) (near : IsNearAll n b p) where
    off : spot_of (board_of s) x ≡ None
    off = none_is _ (ap (λ c. is_some (spot_of c x)) view ∙ absent)

    free : slice_get s x ≡ Some None
    free = absent_is s is.2 x small off

    made : board_of (spots_put s x p) ≡ put (board_of s) x p
    made = board_of-put s is.2 x p free within

    close : IsNearAll n (board_of s) p
    close = subst (λ c. IsNearAll n c p) (sym view) near

    -- the indices and values that the code wrote
    module _ (k h i j : ℕ) (top : Option ℕ) (at_k : k ≡ cell_of n p) (at_i : i ≡ x) (at_j : j ≡ x) (height : h ≡ height_at (board_of s) p) (top_is : top ≡ top_at (board_of s) p) where
      written : slice_set s j (Some (record { place = p; level = h })) ≡ spots_put s x p
      written = (λ m. slice_set s (at_j m) (Some (record { place = p; level = height m }))) ∙ ap (λ l. slice_set s x (Some (record { place = p; level = l }))) (sym (height_is s is.2 p))

      abbrev risen : ℕ → ℕ → List Tower
      risen c l = slice_set towers c (tower_of p (l + 1) (Some x))

      pub put_kept : Kept n (slice_set s j (Some (record { place = p; level = h }))) (slice_set below i top) (risen k h)
      put_kept =
          subst (λ u. Kept n u (slice_set below i top) (risen k h)) (sym written) (
            is.0,
            is.1,
            spots_put_is s is.2 x p free within,
            subst (λ c. IsLinked c (slice_set below i top)) (sym made) (subst (λ m. IsLinked (put (board_of s) x p) (slice_set below m top)) (sym at_i) (subst (λ t. IsLinked (put (board_of s) x p) (slice_set below x t)) (sym top_is)
                (linked_put n some (board_of s) (lemma_board s is.2) x p small within off close below is.3))),
            subst (IsSpread n) (sym made) (spread_put n some (board_of s) (lemma_board s is.2) x p small within off close is.4),
            subst (λ c. HasTowers n c (risen k h)) (sym made) (subst (λ m. HasTowers n (put (board_of s) x p) (risen m h)) (sym at_k) (subst (λ l. HasTowers n (put (board_of s) x p) (risen (cell_of n p) l)) (sym height)
                (towers_put n some (board_of s) (lemma_board s is.2) x p small within off close towers is.5))),
          )

      put_others : (q : Place) → q ≢ p → is_occupied (board_of (slice_set s j (Some (record { place = p; level = h })))) q ≡ is_occupied (board_of s) q
      put_others q other = ap (λ c. is_occupied c q) (ap board_of written ∙ made) ∙ ap (nat_lt 0) (height_apart (board_of s) x p q other)

      put_on : is_occupied (board_of (slice_set s j (Some (record { place = p; level = h })))) p ≡ true
      put_on = ap (λ c. is_occupied c p) (ap board_of written ∙ made)
          ∙ ap (nat_lt 0) (put_height (board_of s) x p (lemma_board s is.2) small within off)
          ∙ some_height (height_at (board_of s) p + 1) (omega arith)

      -- the place came to be occupied where it was not, and no other did
      pub put_turned : IsTurned (board_of s) (board_of (slice_set s j (Some (record { place = p; level = h })))) p (nat_eq h 0)
      put_turned = record {
        here = put_on ∙ sym (was_low h (height_at (board_of s) p) height);
        there = put_others;
      }

      pub put_made : board_of (slice_set s j (Some (record { place = p; level = h }))) ≡ put b x p
      put_made = ap board_of written ∙ made ∙ ap (λ c. put c x p) view

  module _ (t : Spot) (read : spot_of (board_of s) x ≡ Some t) (top : IsTrue (is_on_top b x)) where
    stands : HasSpot s x t.place t.level
    stands = opened (slice_get s x) t (spot_is s is.2 x ∙ read)

    top_here : height_by s t.place ≡ t.level + 1
    top_here = on_top_is s is.2 x t stands (ap (λ c. is_on_top c x) view ∙ top)

    left : board_of (slice_set s x None) ≡ lift (board_of s) x
    left = board_of-lift s is.2 x t.place t.level stands top_here

    high : height_at (board_of s) t.place ≡ t.level + 1
    high = sym (height_is s is.2 t.place) ∙ top_here

    module _ (k i j : ℕ) (o : Option ℕ) (at_k : k ≡ cell_of n t.place) (at_i : i ≡ x) (at_j : j ≡ x) (o_is : slice_get below x ≡ Some o) where
      under : o ≡ under_of (board_of s) x
      under = same_Some _ _ (sym o_is ∙ is.3.links x small)

      abbrev sunk : ℕ → Option ℕ → List Tower
      sunk c u = slice_set towers c (tower_of t.place t.level u)

      pub lift_kept : Kept n (slice_set s j None) (slice_set below i None) (sunk k o)
      lift_kept =
          subst (λ m. Kept n (slice_set s m None) (slice_set below i None) (sunk k o)) (sym at_j) (
            is.0,
            is.1,
            spots_lift_is s is.2 x t.place t.level stands top_here,
            subst (λ c. IsLinked c (slice_set below i None)) (sym left) (subst (λ m. IsLinked (lift (board_of s) x) (slice_set below m None)) (sym at_i)
                (linked_lift n some (board_of s) (lemma_board s is.2) is.4 x t.place t.level (board_has s is.2 x t.place t.level stands) high below small is.3)),
            subst (IsSpread n) (sym left) (spread_lift n some (board_of s) (lemma_board s is.2) is.4 x t.place t.level (board_has s is.2 x t.place t.level stands) high),
            subst (λ c. HasTowers n c (sunk k o)) (sym left) (subst (λ m. HasTowers n (lift (board_of s) x) (sunk m o)) (sym at_k) (subst (λ u. HasTowers n (lift (board_of s) x) (sunk (cell_of n t.place) u)) (sym under)
                (towers_lift n some (board_of s) (lemma_board s is.2) is.4 x t.place t.level (board_has s is.2 x t.place t.level stands) high towers is.5))),
          )

      lift_others : (q : Place) → q ≢ t.place → is_occupied (board_of (slice_set s j None)) q ≡ is_occupied (board_of s) q
      lift_others q other = ap (λ c. is_occupied c q) (ap (λ m. board_of (slice_set s m None)) at_j ∙ left)
          ∙ ap (nat_lt 0) (lifts.height_there (board_of s) (lemma_board s is.2) x t.place t.level (board_has s is.2 x t.place t.level stands) high q (is_other_place q t.place other))

      -- the place came to be empty where no piece is left, and no other did
      pub lift_turned : IsTurned (board_of s) (board_of (slice_set s j None)) t.place (nat_eq t.level 0)
      lift_turned = record {
        here = ap (λ c. is_occupied c t.place) (ap (λ m. board_of (slice_set s m None)) at_j ∙ left)
            ∙ ap (nat_lt 0) (lifts.height_here (board_of s) (lemma_board s is.2) x t.place t.level (board_has s is.2 x t.place t.level stands) high)
            ∙ now_low t.level (nat_lt 0 (height_at (board_of s) t.place)) (some_height (height_at (board_of s) t.place) (omega (arith, high)));
        there = lift_others;
      }

      pub lift_made : board_of (slice_set s j None) ≡ lift b x
      lift_made = ap (λ m. board_of (slice_set s m None)) at_j ∙ left ∙ ap (λ c. lift c x) view

  pub some_read : spot_of (board_of s) x ≡ None → IsTrue (is_on_top b x) → ⊥
  some_read read top =
      let off : spot_of b x ≡ None = ap (λ c. spot_of c x) (sym view) ∙ read in
      let wrong : false ≡ true = ap (is_top_spot b) (sym off) ∙ top in
      cc

-- The empty board

side_small : (n : ℕ) → IsSide n → (32 ≤ n) × (n ≤ 128)
side_small n (inl e) = (omega (arith, e), omega (arith, e))
side_small n (inr (inl e)) = (omega (arith, e), omega (arith, e))
side_small n (inr (inr e)) = (omega (arith, e), omega (arith, e))

no_links : (below : List (Option ℕ)) → length below ≡ 28 → list_all is_none below ≡ true → IsLinked [] below
no_links below many none = record {
  many = many;
  links = λ x small.
      let here = get_exists below x (subst (λ m. x < m) (sym many) small) in
      here.1 ∙ ap Some (all below x here.0 none here.1);
}
  where
    all : (ys : List (Option ℕ)) (x : ℕ) (o : Option ℕ) → list_all is_none ys ≡ true → slice_get ys x ≡ Some o → o ≡ None
    all [] x o e h = absurd (none-some _ h)
    all (None ∷ ys) zero o e h = sym (same_Some _ _ h)
    all (None ∷ ys) (suc x) o e h = all ys x o e h
    all ((Some y) ∷ ys) x o e h = let wrong : false ≡ true = e in absurd (cc)

pub new_kept : (n : ℕ) → IsSide n → (s : Spots) → length s ≡ 28 → list_all is_none s ≡ true → board_of s ≡ [] → (below : List (Option ℕ)) → length below ≡ 28 → list_all is_none below ≡ true
    → (towers : List Tower) → towers ≡ replicate (n * n) (tower_of origin 0 None) → (rings : List Ring) → rings ≡ replicate (n * n) (record { place = origin; mask = 0 }) → Whole n s below towers rings
new_kept n side s many none empty below long free towers flat rings bare = (
  (side_small n side).0,
  (side_small n side).1,
  no_spots s none many,
  subst (λ b. IsLinked b below) (sym empty) (no_links below long free),
  subst (IsSpread n) (sym empty) (empty_spread n),
  subst (λ b. HasTowers n b towers) (sym empty) (empty_towers n towers flat),
  subst (λ b. IsRinged n b rings) (sym empty) (empty_ringed n rings bare),
)
