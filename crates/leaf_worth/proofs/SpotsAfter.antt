-- The spots of the pieces after one was put, and which pieces are free.
use Rattle.std.proofs.Common.{◌≡◌, ◌≢◌, ◌↔◌, List, [], ◌∷◌, length, ℕ, ◌+◌, ◌-◌, ◌<◌, ◌≤◌, Bool, true, false, not, ◌&&◌, ◌⊎◌, inl, inr, refl, sym, ◌∙◌, ap, subst, arith}
use Rattle.std.specs.Prelude.{Option, Some, None, unwrap_or, slice_get, IsTrue, IsNone, IfSome, nat_eq}
use Rattle.std.specs.List.{list_any}
use Rattle.std.proofs.lemmas.Bool.{eqb-true, eq-eqb, ne_eqb, ltb-true}
use Rattle.hive_model.specs.declared.pieces.Colour.{Colour}
use Rattle.hive_model.specs.declared.pieces.Colour.TheVariants.{White, Black}
use Rattle.hive_model.specs.Pieces.{other_side}
use Rattle.hive_model.specs.declared.places.Place.{Place}
use Rattle.hive_model.specs.declared.places.Spot.{Spot}
use Rattle.hive_model.specs.declared.places.Dir.{Dir}
use Rattle.hive_model.specs.declared.places.Dir.TheVariants.{E, NE, NW, W, SW, SE}
use Rattle.hive_model.specs.Places.{step, IsWithin, dir_before}
use Rattle.hive_model.specs.Boards.{Stacks, stack_at, height_at, is_occupied, top_at, top_of, places_of, spot_of, put, StandsAt, IsBoard}
use Rattle.hive_model.specs.Hive.{IsSeparating, IsCut, is_cut, except, are_neighbours}
use Rattle.hive_model.specs.Evaluation.{is_uncut_top, is_free_piece}
use Rattle.hive_model.proofs.PlaceLemmas.{cases_place}
use Rattle.hive_model.proofs.BoardLemmas.{spot_of_stands, stands_spot_of, put_stands, stands_put, stands_on_top, stands_occupied, occupied_stands, stands_on}
use Rattle.hive_model.proofs.GetLemmas.{same_options, get_within, get_exists}
use Rattle.hive_model.proofs.KeepLaws.{board_put}
use Rattle.hive_model.proofs.CutLaws.{cut_from, from_cut}
use Rattle.hive_model.proofs.RuleLaws.{neighbours_from, from_neighbours, step_once, any_has, has_any}
use Rattle.hive_model.proofs.ReachLaws.{step_moves}
use Rattle.arcs.specs.Arcs.{OneArc}
use Rattle.arcs.proofs.ArcBoards.{IsRaised, raised_put, arc_but_one, another_beside, one_beside, arc_without, except_in, except_out}
use Rattle.hive_model.specs.Neighbours.{ring, ring_mask, weight}
use Rattle.cut_keeper.proofs.RingLaws.{arc_unsuspected, another_from}
use Rattle.cut_keeper.proofs.ChangeLaws.{same_separating, same_occupied}
use Rattle.cut_keeper.specs.Rings.{is_suspect}
use Rattle.leaf_worth.specs.declared.free_after.FreeChange.TheVariants.{Lost}
use Rattle.leaf_worth.specs.After.{HasTwo, FreeAfter}

-- the neighbour in this direction is no cut place, or the others still form one arc without it
abbrev pub Stays : Stacks → Place → Dir → Type 0
Stays b p d = (is_suspect (ring (is_occupied b) p) d ≡ false) ⊎ (¬ IsCut b (step p d))

pub same_tests : {P : Type 0} (r t : Bool) → (IsTrue r ↔ P) → (IsTrue t ↔ P) → r ≡ t
same_tests true true a b = refl
same_tests true false a b = sym (b.1 (a.0 refl))
same_tests false true a b = a.1 (b.0 refl)
same_tests false false a b = refl

pub no_and : (t : Bool) → (t && false) ≡ false
no_and true = refl
no_and false = refl

pub cases_number : (x y : ℕ) → (x ≡ y) ⊎ (x ≢ y)
cases_number x y = elim (nat_eq x y) as (λ t. nat_eq x y ≡ t → (x ≡ y) ⊎ (x ≢ y)) [
  | true ↦ λ e. inl (eqb-true x y e)
  | false ↦ λ e. inr (λ same. let wrong : true ≡ false = sym (eq-eqb x y same) ∙ e in cc)
] refl

-- the direction before one differs from it
turned : (d : Dir) → dir_before d ≢ d
turned E e = cc
turned NE e = cc
turned NW e = cc
turned W e = cc
turned SW e = cc
turned SE e = cc

pub nothing_there : {X : Type 0} (o : Option X) → IsNone o → o ≡ None
nothing_there None h = refl
nothing_there (Some x) h = absurd (cc)

pub nothing_by : {X : Type 0} (o : Option X) → ((y : X) → o ≡ Some y → ⊥) → o ≡ None
nothing_by None h = refl
nothing_by (Some x) h = absurd (h x refl)

-- if two places are occupied, one of them is not n
pub another_place : (b : Stacks) → HasTwo b → (n : Place) → (q : Place) × IsTrue (is_occupied b q) × (q ≢ n)
another_place b two n = elim (list_any (except (is_occupied b) n) (places_of b)) as (λ t. list_any (except (is_occupied b) n) (places_of b) ≡ t → (q : Place) × IsTrue (is_occupied b q) × (q ≢ n)) [
  | true ↦ λ e. let found = any_has (except (is_occupied b) n) (places_of b) e in let out = except_out (is_occupied b) n found.0 found.2 in (found.0, out.1, out.0)
  | false ↦ λ e. absurd (two n (λ q on. elim (cases_place q n) [
    | inl same ↦ same
    | inr other ↦
        let stands = occupied_stands b q on in
        let wrong : false ≡ true = sym e ∙ has_any (except (is_occupied b) n) (places_of b) q (stands_on b stands.0 q 0 stands.1) (except_in (is_occupied b) n q other on) in
        absurd (cc)
  ]))
] refl

-- a number that is not above 0
pub no_height : (n : ℕ) {m : ℕ} → n ≡ m → m ≤ 0 → n ≡ 0
no_height n same few = omega (arith, same, few)

pub all_dirs : (P : Dir → Type 0) → P E → P NE → P NW → P W → P SW → P SE → (d : Dir) → P d
all_dirs P a b c d e f E = a
all_dirs P a b c d e f NE = b
all_dirs P a b c d e f NW = c
all_dirs P a b c d e f W = d
all_dirs P a b c d e f SW = e
all_dirs P a b c d e f SE = f

module _ (b : Stacks) (is : IsBoard b) (x : ℕ) (p : Place) (low : x < 28) (inside : IsWithin 9000 p) (absent : spot_of b x ≡ None) where
  pub gone : (q : Place) (i : ℕ) → StandsAt b x q i → ⊥
  gone q i h = let wrong : ◌≡◌ {A = Option Spot} None (Some (record { place = q; level = i })) = sym absent ∙ stands_spot_of b is x q i h in cc

  pub is_after : IsBoard (put b x p)
  is_after = board_put b x p is low inside gone

  raised : IsRaised b (put b x p) p
  raised = raised_put b x p

  pub spot_new : spot_of (put b x p) x ≡ Some (record { place = p; level = height_at b p })
  spot_new = stands_spot_of (put b x p) is_after x p (height_at b p) (stands_on_top b x p)

  pub spot_same : (y : ℕ) → y ≢ x → spot_of (put b x p) y ≡ spot_of b y
  spot_same y other = same_options _ _ there back
    where
      there : (s : Spot) → spot_of (put b x p) y ≡ Some s → spot_of b y ≡ Some s
      there s h = elim (put_stands b x p y s.place s.level (spot_of_stands (put b x p) y s h)) [
        | inl old ↦ stands_spot_of b is y s.place s.level old
        | inr new ↦ absurd (other new.0)
      ]

      back : (s : Spot) → spot_of b y ≡ Some s → spot_of (put b x p) y ≡ Some s
      back s h = stands_spot_of (put b x p) is_after y s.place s.level (stands_put b x p y s.place s.level (spot_of_stands b y s h))

  pub cut_same : (q : Place) → (IsCut (put b x p) q ↔ IsCut b q) → is_cut (put b x p) q ≡ is_cut b q
  cut_same q same =
      same_tests (is_cut (put b x p) q) (is_cut b q) (cut_from (put b x p) is_after q, from_cut (put b x p) is_after q)
      (λ e. same.1 (cut_from b is q e), λ h. from_cut b is q (same.0 h))

  -- the test of a free piece, if the piece is not the one that was put
  pub free_then : (y : ℕ) → y ≢ x → is_free_piece (put b x p) (Some x) y ≡ is_uncut_top (put b x p) (spot_of b y)
  free_then y other = ap (λ t. not t && is_uncut_top (put b x p) (spot_of (put b x p) y)) (ne_eqb y x other) ∙ ap (is_uncut_top (put b x p)) (spot_same y other)

  pub free_itself : is_free_piece (put b x p) (Some x) x ≡ is_free_piece b None x
  free_itself = ap (λ t. not t && is_uncut_top (put b x p) (spot_of (put b x p) x)) (eq-eqb x x refl) ∙ sym (ap (is_uncut_top b) absent)

  free_elsewhere : (s : Spot) → s.place ≢ p → (IsCut (put b x p) s.place ↔ IsCut b s.place) → is_uncut_top (put b x p) (Some s) ≡ is_uncut_top b (Some s)
  free_elsewhere s other same =
      ap (λ n. nat_eq (s.level + 1) n && not (is_cut (put b x p) s.place)) (raised.others s.place other)
      ∙ ap (λ t. nat_eq (s.level + 1) (height_at b s.place) && not t) (cut_same s.place same)

  -- the piece on the place of the new one is covered
  covered : (y : ℕ) (s : Spot) → spot_of b y ≡ Some s → s.place ≡ p → is_uncut_top (put b x p) (Some s) ≡ false
  covered y s stands same =
      let stood : StandsAt b y p s.level = subst (λ q. StandsAt b y q s.level) same (spot_of_stands b y s stands) in
      let below = get_within (stack_at b p) s.level y stood in
      let here = raised.here in
      let apart : s.level + 1 ≢ height_at (put b x p) p = (λ e. omega (arith, e, below, here)) in
      ap (λ q. nat_eq (s.level + 1) (height_at (put b x p) q) && not (is_cut (put b x p) s.place)) same
      ∙ ap (λ t. t && not (is_cut (put b x p) s.place)) (ne_eqb _ _ apart)

  -- each piece but z, by its spot
  module _ (z : Option ℕ) (at_place : (y : ℕ) (s : Spot) → z ≢ Some y → spot_of b y ≡ Some s → is_uncut_top (put b x p) (Some s) ≡ is_uncut_top b (Some s)) where
    pub free_by : (y : ℕ) → z ≢ Some y → is_free_piece (put b x p) (Some x) y ≡ is_free_piece b None y
    free_by y apart = elim (cases_number y x) [
      | inl same ↦ subst (λ k. is_free_piece (put b x p) (Some x) k ≡ is_free_piece b None k) (sym same) free_itself
      | inr other ↦ free_then y other ∙ at (spot_of b y) refl
    ]
      where
        at : (o : Option Spot) → spot_of b y ≡ o → is_uncut_top (put b x p) o ≡ is_uncut_top b o
        at None e = refl
        at (Some s) e = at_place y s apart e

  -- the piece covers another one
  pub free_above : (top : ℕ) → top_at b p ≡ Some top → FreeAfter b x p (Some (Lost top))
  free_above top on = (λ y other. free_by (Some top) at_place y (λ e. other (cc)), not_free, is.pieces p _ top on)
    where
      some : 0 < height_at b p
      some = let r = get_within (stack_at b p) (height_at b p - 1) top on in omega (arith, r)

      same_cut : (q : Place) → q ≢ p → IsCut (put b x p) q ↔ IsCut b q
      same_cut q other =
          let same = same_separating b (put b x p) (same_occupied b (put b x p) x p is is_after refl some) q in
          let e = raised.others q other in
          (λ h. record { alone = sym e ∙ h.alone; separates = same.0 h.separates }, λ h. record { alone = e ∙ h.alone; separates = same.1 h.separates })

      at_place : (y : ℕ) (s : Spot) → Some top ≢ Some y → spot_of b y ≡ Some s → is_uncut_top (put b x p) (Some s) ≡ is_uncut_top b (Some s)
      at_place y s other stands = elim (cases_place s.place p) [
        | inr elsewhere ↦ free_elsewhere s elsewhere (same_cut s.place elsewhere)
        | inl same ↦
            let apart : s.level + 1 ≢ height_at b s.place = (λ e.
            let stood : StandsAt b y p s.level = subst (λ q. StandsAt b y q s.level) same (spot_of_stands b y s stands) in
            let h : s.level + 1 ≡ height_at b p = e ∙ ap (height_at b) same in
            let level : s.level ≡ height_at b p - 1 = omega (arith, h) in
            other (sym on ∙ ap (slice_get (stack_at b p)) (sym level) ∙ stood)) in
            covered y s stands same ∙ sym (ap (λ t. t && not (is_cut b s.place)) (ne_eqb _ _ apart))
      ]

      not_free : is_free_piece (put b x p) (Some x) top ≡ false
      not_free =
          let stands = stands_spot_of b is top p (height_at b p - 1) on in
          let other : top ≢ x = (λ e. gone p (height_at b p - 1) (on ∙ ap (λ (k : ℕ). Some k) e)) in
          free_then top other ∙ ap (is_uncut_top (put b x p)) stands ∙ covered top (record { place = p; level = height_at b p - 1 }) stands refl

  -- the place was empty
  module _ (empty : height_at b p ≡ 0) where
    pub moved : (q : Place) → IsTrue (is_occupied b q) → q ≢ p
    moved q on same = let wrong : 0 < height_at b p = ltb-true 0 _ (ap (is_occupied b) (sym same) ∙ on) in omega (arith, wrong, empty)

    cut_by : (q : Place) → q ≢ p → (IsSeparating (put b x p) q ↔ IsSeparating b q) → IsCut (put b x p) q ↔ IsCut b q
    cut_by q other same =
        let e = raised.others q other in
        (λ h. record { alone = sym e ∙ h.alone; separates = same.0 h.separates }, λ h. record { alone = e ∙ h.alone; separates = same.1 h.separates })

    pub free_where : ((q : Place) → IsTrue (is_occupied b q) → IsCut (put b x p) q ↔ IsCut b q) → FreeAfter b x p None
    free_where same y = free_by None (λ y s _ stands.
        let on = stands_occupied b y s.place s.level (spot_of_stands b y s stands) in
        free_elsewhere s (moved s.place on) (same s.place on)) y (λ e. cc)

    -- if a piece stands on the ground of this place alone, all other places stay
    module _ (n : Place) (one : height_at b n ≡ 1) (top : ℕ) (at_top : top_at b n ≡ Some top) where
      pub first_on : StandsAt b top n 0
      first_on = let e : 0 ≡ height_at b n - 1 = omega (arith, one) in ap (slice_get (stack_at b n)) e ∙ at_top

      pub but_on : ((q : Place) → IsTrue (is_occupied b q) → q ≢ n → IsCut (put b x p) q ↔ IsCut b q) → (y : ℕ) → y ≢ top → is_free_piece (put b x p) (Some x) y ≡ is_free_piece b None y
      but_on same y apart = free_by (Some top) at_place y (λ e. apart (cc))
        where
          at_place : (y : ℕ) (s : Spot) → Some top ≢ Some y → spot_of b y ≡ Some s → is_uncut_top (put b x p) (Some s) ≡ is_uncut_top b (Some s)
          at_place y s other stands =
              let stood = spot_of_stands b y s stands in
              let on_s = stands_occupied b y s.place s.level stood in
              elim (cases_place s.place n) [
                | inr elsewhere ↦ free_elsewhere s (moved s.place on_s) (same s.place on_s elsewhere)
                | inl there ↦
                    let here : StandsAt b y n s.level = subst (λ q. StandsAt b y q s.level) there stood in
                    let below = get_within (stack_at b n) s.level y here in
                    let level : 0 ≡ s.level = omega (arith, below, one) in
                    absurd (other (sym first_on ∙ ap (slice_get (stack_at b n)) level ∙ here))
              ]

      -- the piece there is not the one that is put
      pub other_on : top ≢ x
      other_on e = gone n 0 (first_on ∙ ap (λ (k : ℕ). Some k) e)

      pub free_on : n ≢ p → is_free_piece (put b x p) (Some x) top ≡ not (is_cut (put b x p) n)
      free_on apart =
          let stands = stands_spot_of b is top n 0 first_on in
          free_then top other_on ∙ ap (is_uncut_top (put b x p)) stands
          ∙ ap (λ t. t && not (is_cut (put b x p) n)) (eq-eqb _ _ (sym (raised.others n apart ∙ one)))

    -- beside one arc of two or more: each neighbour that stays, and each place that is no neighbour
    module _ (arc : OneArc (is_occupied b) p) (more : (d : Dir) → ring_mask (ring (is_occupied b) p) ≢ weight d) where
      still_beside : (d : Dir) → IsTrue (is_occupied b (step p d)) → Stays b p d → IsCut (put b x p) (step p d) ↔ IsCut b (step p d)
      still_beside d on_d (inl calm) = cut_by (step p d) (step_moves p d) (arc_but_one b x p empty (step p d) (step_moves p d) (arc_unsuspected (is_occupied b) p d on_d calm))
      still_beside d on_d (inr no_cut) =
          let another = another_from (ring (is_occupied b) p) d (more d) on_d in
          let still = another_beside b x p empty (step p d) (step_moves p d) another.0 another.1 (λ e. another.2 (step_once p another.0 d e)) in
          let e = raised.others (step p d) (step_moves p d) in
          (λ h. absurd (no_cut (record { alone = sym e ∙ h.alone; separates = still h.separates })), λ h. absurd (no_cut h))

      pub still_cut : (q : Place) → IsTrue (is_occupied b q) → ((d : Dir) → step p d ≡ q → Stays b p d) → IsCut (put b x p) q ↔ IsCut b q
      still_cut q on stays =
          let other = moved q on in
          elim (are_neighbours p q) as (λ t. are_neighbours p q ≡ t → IsCut (put b x p) q ↔ IsCut b q) [
            | false ↦ λ e. cut_by q other (arc_but_one b x p empty q other (arc_without b p q (λ n. let wrong : false ≡ true = sym e ∙ from_neighbours p q n in cc) arc))
            | true ↦ λ e.
                let n = neighbours_from p q e in
                let on_d : IsTrue (is_occupied b (step p n.0)) = ap (is_occupied b) n.1 ∙ on in
                subst (λ r. IsCut (put b x p) r ↔ IsCut b r) n.1 (still_beside n.0 on_d (stays n.0 n.1))
          ] refl

      pub free_beside_arc : ((d : Dir) → Stays b p d) → FreeAfter b x p None
      free_beside_arc stays = free_where (λ q on. still_cut q on (λ d _. stays d))

    -- beside one neighbour alone
    module _ (d : Dir) (on : IsTrue (is_occupied b (step p d))) (only : (e : Dir) → IsTrue (is_occupied b (step p e)) → e ≡ d) where
      lone_arc : (q : Place) → q ≢ step p d → OneArc (except (is_occupied b) q) p
      lone_arc q other = record {
        first = d;
        here = except_in (is_occupied b) q (step p d) (λ e. other (sym e)) on;
        before = off;
        only = λ e on_e _. only e (except_out (is_occupied b) q (step p e) on_e).1;
      }
        where
          off : except (is_occupied b) q (step p (dir_before d)) ≡ false
          off = elim (except (is_occupied b) q (step p (dir_before d))) as (λ t. except (is_occupied b) q (step p (dir_before d)) ≡ t → t ≡ false) [
            | true ↦ λ e. absurd (turned d (only (dir_before d) (except_out (is_occupied b) q (step p (dir_before d)) e).1))
            | false ↦ λ _. refl
          ] refl

      same_but : (q : Place) → IsTrue (is_occupied b q) → q ≢ step p d → IsCut (put b x p) q ↔ IsCut b q
      same_but q on_q other = cut_by q (moved q on_q) (arc_but_one b x p empty q (moved q on_q) (lone_arc q other))

      pub free_beside_stack : 1 < height_at b (step p d) → FreeAfter b x p None
      free_beside_stack high = free_where (λ q on_q. elim (cases_place q (step p d)) [
        | inr other ↦ same_but q on_q other
        | inl same ↦
            let e = raised.others q (moved q on_q) in
            let there : height_at b q ≡ height_at b (step p d) = ap (height_at b) same in
            (λ h. let a = h.alone in absurd (omega (arith, a, e, there, high)), λ h. let a = h.alone in absurd (omega (arith, a, there, high)))
      ])

      pub free_beside_one : HasTwo b → height_at b (step p d) ≤ 1 → (top : ℕ) → top_at b (step p d) ≡ Some top → FreeAfter b x p (Some (Lost top))
      free_beside_one two ground top at_top = (but_on (step p d) one top at_top same_but, not_free, is.pieces (step p d) _ top at_top)
        where
          one : height_at b (step p d) ≡ 1
          one = let some = ltb-true 0 _ on in omega (arith, some, ground)

          not_free : is_free_piece (put b x p) (Some x) top ≡ false
          not_free =
              let cut : IsCut (put b x p) (step p d) = record {
                alone = raised.others (step p d) (step_moves p d) ∙ one;
                separates = (one_beside b x p empty d on only).1 (another_place b two (step p d));
              } in
              free_on (step p d) one top at_top (step_moves p d) ∙ ap not (from_cut (put b x p) is_after (step p d) cut)

-- a place with no piece on top is empty
pub no_top : (b : Stacks) (p : Place) → top_at b p ≡ None → height_at b p ≡ 0
no_top b p e = go (stack_at b p) e
  where
    go : (xs : List ℕ) → top_of xs ≡ None → length xs ≡ 0
    go [] h = refl
    go (y ∷ ys) h = let r = get_exists (y ∷ ys) (length (y ∷ ys) - 1) (omega arith) in let wrong : None ≡ Some r.0 = sym h ∙ r.1 in absurd (cc)

-- Two places

pub or_occupied : (b : Stacks) (o : Option Place) (q : Place) → IfSome o (λ p. IsTrue (is_occupied b p)) → IsTrue (is_occupied b q) → IsTrue (is_occupied b (unwrap_or o q))
or_occupied b None q h k = k
or_occupied b (Some p) q h k = h

pub two_apart : (b : Stacks) (p q : Place) → IsTrue (is_occupied b p) → IsTrue (is_occupied b q) → p ≢ q → HasTwo b
two_apart b p q on_p on_q apart n all = apart (all p on_p ∙ sym (all q on_q))

pub spot_occupied : (b : Stacks) (x : ℕ) (s : Spot) → spot_of b x ≡ Some s → IsTrue (is_occupied b s.place)
spot_occupied b x s h = stands_occupied b x s.place s.level (spot_of_stands b x s h)

-- Both sides

pub both_sides : (P : Colour → Type 0) (side other : Colour) → other ≡ other_side side → P other → P side → (c : Colour) → P c
both_sides P White other turned there here White = here
both_sides P White other turned there here Black = subst P turned there
both_sides P Black other turned there here White = subst P turned there
both_sides P Black other turned there here Black = here
