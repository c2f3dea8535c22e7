-- The neighbours of the queens after a piece was put.
use Rattle.std.proofs.Common.{◌≡◌, ◌≢◌, ℕ, zero, suc, ◌+◌, ◌<◌, ◌≤◌, Bool, true, false, cond, List, [], ◌∷◌, length, ◌⊎◌, inl, inr, refl, sym, ◌∙◌, ap, arith, count_by}
use Rattle.std.specs.Prelude.{Some, None, nat_lt}
use Rattle.std.specs.List.{list_all, filter}
use Rattle.std.proofs.lemmas.Bool.{and_parts, and_from, false_from_ne_true}
use Rattle.std.proofs.lemmas.List.Sums.{sum_by-cons, length-filter, count_by-le-length}
use Rattle.hive_model.specs.declared.pieces.Colour.{Colour}
use Rattle.hive_model.specs.declared.places.Place.{Place}
use Rattle.hive_model.specs.declared.places.Spot.{Spot}
use Rattle.hive_model.specs.declared.places.Dir.{Dir}
use Rattle.hive_model.specs.Pieces.{queen_of}
use Rattle.hive_model.specs.Places.{step, dirs, neighbours, is_place, IsWithin}
use Rattle.hive_model.specs.Hive.{are_neighbours}
use Rattle.hive_model.specs.Boards.{Stacks, height_at, is_occupied, spot_of, put, IsBoard}
use Rattle.hive_model.specs.Evaluation.{occupied_round, round_queen}
use Rattle.hive_model.specs.Legal.{is_surrounded_at, is_surrounded}
use Rattle.hive_model.proofs.PlaceLemmas.{cases_place, from_same_place, is_other_place}
use Rattle.hive_model.proofs.ReachLaws.{step_moves}
use Rattle.hive_model.proofs.KeepLaws.{taken}
use Rattle.arcs.proofs.ArcBoards.{raised_put}
use Rattle.cut_keeper.proofs.ChangeLaws.{same_occupied}
use Rattle.leaf_worth.proofs.NextLaws.{none_leads}
use Rattle.leaf_worth.proofs.SpotsAfter.{spot_new, spot_same, is_after}

-- Counts

abbrev bit : Bool → ℕ
bit t = cond t 1 0

count_cons : (f : Dir → Bool) (d : Dir) (ds : List Dir) → count_by f (d ∷ ds) ≡ bit (f d) + count_by f ds
count_cons f d ds = sum_by-cons (λ e. bit (f e)) d ds

count_sum : (f g h : Dir → Bool) → ((d : Dir) → bit (f d) ≡ bit (g d) + bit (h d)) → (ds : List Dir) → count_by f ds ≡ count_by g ds + count_by h ds
count_sum f g h at [] = refl
count_sum f g h at (d ∷ ds) =
    let a = count_cons f d ds in
    let b = count_cons g d ds in
    let c = count_cons h d ds in
    let rest = count_sum f g h at ds in
    let here = at d in
    omega (arith, a, b, c, rest, here)

all_count : (f : Dir → Bool) (ds : List Dir) → list_all f ds ≡ true → count_by f ds ≡ length ds
all_count f [] h = refl
all_count f (d ∷ ds) h =
    let both = and_parts (f d) (list_all f ds) h in
    let rest = all_count f ds both.1 in
    let a = count_cons f d ds in
    let one : bit (f d) ≡ 1 = ap bit both.0 in
    omega (arith, rest, a, one)

count_all : (f : Dir → Bool) (ds : List Dir) → count_by f ds ≡ length ds → list_all f ds ≡ true
count_all f [] h = refl
count_all f (d ∷ ds) h = elim (f d) as (λ t. f d ≡ t → list_all f (d ∷ ds) ≡ true) [
  | true ↦ λ e.
      let a = count_cons f d ds in
      let one : bit (f d) ≡ 1 = ap bit e in
      let rest : count_by f ds ≡ length ds = omega (arith, h, a, one) in
      and_from (f d) (list_all f ds) e (count_all f ds rest)
  | false ↦ λ e.
      let a = count_cons f d ds in
      let none : bit (f d) ≡ 0 = ap bit e in
      let few = count_by-le-length f ds in
      absurd (omega (arith, h, a, none, few))
] refl

-- a count equal to the number of directions counts them all
many_all : (f : Dir → Bool) (n : ℕ) → count_by f dirs ≡ n → 6 ≤ n → list_all f dirs ≡ true
many_all f n count many = let few = count_by-le-length f dirs in count_all f dirs (omega (arith, count, many, few))

few_not_all : (f : Dir → Bool) → count_by f dirs < 6 → list_all f dirs ≡ false
few_not_all f few = false_from_ne_true _ (λ e. let all = all_count f dirs e in omega (arith, few, all))

same_not_all : (f g : Dir → Bool) → count_by f dirs ≡ count_by g dirs → list_all g dirs ≡ false → list_all f dirs ≡ false
same_not_all f g same not_g = false_from_ne_true _ (λ e. let wrong : false ≡ true = sym not_g ∙ count_all g dirs (sym same ∙ all_count f dirs e) in cc)

empty_or_not : (n : ℕ) → (n ≡ 0) ⊎ (0 < n)
empty_or_not zero = inl refl
empty_or_not (suc n) = inr (omega arith)

-- which neighbours of a place are occupied
abbrev pub beside : Stacks → Place → Dir → Bool
beside b q d = is_occupied b (step q d)

pub round_is : (b : Stacks) (q : Place) → length (filter (is_occupied b) (neighbours q)) ≡ count_by (beside b q) dirs
round_is b q = length-filter (is_occupied b) (neighbours q)

module _ (b : Stacks) (is : IsBoard b) (x : ℕ) (p : Place) (low : x < 28) (inside : IsWithin 9000 p) (absent : spot_of b x ≡ None) (side : Colour) where
  same_beside : (d : Dir) → beside (put b x p) p d ≡ beside b p d
  same_beside d = ap (nat_lt 0) ((raised_put b x p).others (step p d) (step_moves p d))

  -- the queen herself is put
  module _ (same : x ≡ queen_of side) (n : ℕ) (count : n ≡ count_by (beside b p) dirs) where
    stands_there : spot_of (put b x p) (queen_of side) ≡ Some (record { place = p; level = height_at b p })
    stands_there = ap (spot_of (put b x p)) (sym same) ∙ spot_new b is x p low inside absent

    there : count_by (beside (put b x p) p) dirs ≡ n
    there = ap (λ (f : Dir → Bool). count_by f dirs) (λ i d. same_beside d i) ∙ sym count

    pub own_more : round_queen (put b x p) side ≡ round_queen b side + n
    own_more =
        let none : round_queen b side ≡ 0 = ap (occupied_round b) (ap (spot_of b) (sym same) ∙ absent) in
        let now : round_queen (put b x p) side ≡ n = ap (occupied_round (put b x p)) stands_there ∙ round_is (put b x p) p ∙ there in
        omega (arith, none, now)

    pub own_open : n < 6 → is_surrounded (put b x p) side ≡ false
    own_open few = ap (is_surrounded_at (put b x p)) stands_there ∙ few_not_all (beside (put b x p) p) (let t = there in omega (arith, few, t))

    pub own_closed : 6 ≤ n → is_surrounded (put b x p) side ≡ true
    own_closed many = ap (is_surrounded_at (put b x p)) stands_there ∙ many_all (beside (put b x p) p) n there many

  module _ (other : x ≢ queen_of side) where
    stands_still : spot_of (put b x p) (queen_of side) ≡ spot_of b (queen_of side)
    stands_still = spot_same b is x p low inside absent (queen_of side) (λ e. other (sym e))

    -- the queen is in hand
    module _ (hand : spot_of b (queen_of side) ≡ None) where
      pub hand_more : round_queen (put b x p) side ≡ round_queen b side + 0
      hand_more =
          let then : round_queen (put b x p) side ≡ 0 = ap (occupied_round (put b x p)) (stands_still ∙ hand) in
          let now : round_queen b side ≡ 0 = ap (occupied_round b) hand in
          omega (arith, then, now)

      pub hand_open : is_surrounded (put b x p) side ≡ false
      hand_open = ap (is_surrounded_at (put b x p)) (stands_still ∙ hand)

    -- the queen is on the board
    module _ (s : Spot) (stands : spot_of b (queen_of side) ≡ Some s) where
      round_then : round_queen (put b x p) side ≡ count_by (beside (put b x p) s.place) dirs
      round_then = ap (occupied_round (put b x p)) (stands_still ∙ stands) ∙ round_is (put b x p) s.place

      round_now : round_queen b side ≡ count_by (beside b s.place) dirs
      round_now = ap (occupied_round b) stands ∙ round_is b s.place

      open_then : list_all (beside (put b x p) s.place) dirs ≡ false → is_surrounded (put b x p) side ≡ false
      open_then e = ap (is_surrounded_at (put b x p)) (stands_still ∙ stands) ∙ e

      open_now : is_surrounded b side ≡ false → list_all (beside b s.place) dirs ≡ false
      open_now e = sym (ap (is_surrounded_at b) stands) ∙ e

      -- the piece covers another one
      module _ (some : 0 < height_at b p) where
        same_there : count_by (beside (put b x p) s.place) dirs ≡ count_by (beside b s.place) dirs
        same_there =
            let same = same_occupied b (put b x p) x p is (is_after b is x p low inside absent) refl some in
            ap (λ (f : Dir → Bool). count_by f dirs) (λ i d. same (step s.place d) i)

        pub above_more : round_queen (put b x p) side ≡ round_queen b side + 0
        above_more = let a = round_then in let c = same_there in let e = round_now in omega (arith, a, c, e)

        pub above_open : is_surrounded b side ≡ false → is_surrounded (put b x p) side ≡ false
        above_open was = open_then (same_not_all (beside (put b x p) s.place) (beside b s.place) same_there (open_now was))

      -- the place was empty
      module _ (empty : height_at b p ≡ 0) (n : ℕ) (count : n ≡ count_by (λ d. is_place (step s.place d) p) dirs) where
        one_more : (r : Place) → bit (is_occupied (put b x p) r) ≡ bit (is_occupied b r) + bit (is_place r p)
        one_more r = elim (cases_place r p) [
          | inl same ↦
              let then : bit (is_occupied (put b x p) r) ≡ 1 = ap bit (ap (is_occupied (put b x p)) same ∙ taken b x p) in
              let now : bit (is_occupied b r) ≡ 0 = ap bit (ap (is_occupied b) same ∙ ap (nat_lt 0) empty) in
              let here : bit (is_place r p) ≡ 1 = ap bit (from_same_place r p same) in
              omega (arith, then, now, here)
          | inr other ↦
              let then : bit (is_occupied (put b x p) r) ≡ bit (is_occupied b r) = ap bit (ap (nat_lt 0) ((raised_put b x p).others r other)) in
              let here : bit (is_place r p) ≡ 0 = ap bit (is_other_place r p other) in
              omega (arith, then, here)
        ]

        sum_there : count_by (beside (put b x p) s.place) dirs ≡ count_by (beside b s.place) dirs + n
        sum_there =
            let sum = count_sum (beside (put b x p) s.place) (beside b s.place) (λ d. is_place (step s.place d) p) (λ d. one_more (step s.place d)) dirs in
            omega (arith, sum, count)

        pub beside_more : round_queen (put b x p) side ≡ round_queen b side + n
        beside_more = let a = round_then in let c = sum_there in let e = round_now in omega (arith, a, c, e)

        pub apart_open : n ≡ 0 → is_surrounded b side ≡ false → is_surrounded (put b x p) side ≡ false
        apart_open none was = open_then (same_not_all (beside (put b x p) s.place) (beside b s.place) (let c = sum_there in omega (arith, c, none)) (open_now was))

        pub beside_open : (m : ℕ) → m ≡ count_by (beside b s.place) dirs → m + n < 6 → is_surrounded (put b x p) side ≡ false
        beside_open m round few = open_then (few_not_all (beside (put b x p) s.place) (let c = sum_there in omega (arith, c, round, few)))

        pub beside_closed : (m : ℕ) → m ≡ count_by (beside b s.place) dirs → 6 ≤ m + n → is_surrounded (put b x p) side ≡ true
        beside_closed m round many =
            let c = sum_there in
            ap (is_surrounded_at (put b x p)) (stands_still ∙ stands) ∙ many_all (beside (put b x p) s.place) (m + n) (omega (arith, c, round)) many

      -- no direction leads from her to the place, whether it is empty or not
      module _ (afar : are_neighbours s.place p ≡ false) where
        pub afar_more : round_queen (put b x p) side ≡ round_queen b side + 0
        afar_more = elim (empty_or_not (height_at b p)) [
          | inl empty ↦ beside_more empty 0 (none_leads s.place p afar)
          | inr some ↦ above_more some
        ]

        pub afar_open : is_surrounded b side ≡ false → is_surrounded (put b x p) side ≡ false
        afar_open was = elim (empty_or_not (height_at b p)) [
          | inl empty ↦ apart_open empty 0 (none_leads s.place p afar) refl was
          | inr some ↦ above_open some was
        ]
