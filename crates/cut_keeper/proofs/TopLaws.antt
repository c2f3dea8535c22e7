-- The pieces on top of places and those that stand on others, as a board changes by one piece.
use Rattle.std.proofs.Common.{◌≡◌, ◌≢◌, ◌↔◌, ℕ, suc, zero, ◌+◌, ◌-◌, ◌^◌, ◌<◌, Bool, true, false, cond, not, ◌&&◌, List, ◌⊎◌, inl, inr, refl, sym, ◌∙◌, ap, subst, arith, min, max, bit_and, bit_or, w32}
use Rattle.std.specs.Prelude.{Option, Some, None, slice_get, nat_eq, nat_lt, IsTrue}
use Rattle.std.specs.Int.{bit_at, bit_not}
use Rattle.std.proofs.lemmas.Bool.{eqb-true, eq-eqb, ltb-true, lt-ltb, cases_eq, cases_lt}
use Rattle.std.proofs.lemmas.Nat.{and_le_l}
use Rattle.std.proofs.lemmas.Nat.Bits.{bit_at_and, bit_at_or, bit_at_not, bit_at-lt}
use Rattle.hive_model.specs.declared.places.Place.{Place}
use Rattle.hive_model.specs.declared.places.Spot.{Spot}
use Rattle.hive_model.specs.Boards.{Stacks, stack_at, height_at, top_at, spot_of, is_on_top, is_top_spot, under_of, put, StandsAt, IsBoard}
use Rattle.hive_model.specs.Hive.{IsCut}
use Rattle.hive_model.specs.Evaluation.{is_free_piece, is_uncut_top, free_pieces}
use Rattle.hive_model.proofs.GetLemmas.{get_within}
use Rattle.hive_model.proofs.PlaceLemmas.{cases_place}
use Rattle.hive_model.proofs.BoardLemmas.{spot_of_stands, stands_spot_of, put_stands, stands_put, stands_on_top}
use Rattle.hive_model.proofs.PieceMasks.{mask_from}
use Rattle.arcs.proofs.ArcBoards.{IsRaised, raised_put}
use Rattle.one_hive.specs.Visits.{IsSet}
use Rattle.one_hive.specs.Marks.{flags}
use Rattle.one_hive.specs.Separating.{MarksSeparating}
use Rattle.one_hive.proofs.Flags.{bit_of, flag_of}
use Rattle.one_hive.proofs.FreeMarks.{uncut_is, covered_is}
use Rattle.one_hive.proofs.Marking.{one_place}
use Rattle.cut_keeper.specs.Keeping.{MarksTops, MarksHigh}
use Rattle.cut_keeper.proofs.ChangeLaws.{top_new, top_same, not_on, under_is}

-- What is on top

pub top_on : (b : Stacks) → IsBoard b → (x : ℕ) (p : Place) → top_at b p ≡ Some x → IsTrue (is_on_top b x)
top_on b is x p top =
    let within = get_within (stack_at b p) (height_at b p - 1) x top in
    let tall : height_at b p - 1 + 1 ≡ height_at b p = omega (arith, within) in
    ap (is_top_spot b) (stands_spot_of b is x p (height_at b p - 1) top) ∙ eq-eqb (height_at b p - 1 + 1) (height_at b p) tall

top_of_spot : (b : Stacks) (x : ℕ) (s : Spot) → spot_of b x ≡ Some s → s.level + 1 ≡ height_at b s.place → top_at b s.place ≡ Some x
top_of_spot b x s e tall =
    let at : height_at b s.place - 1 ≡ s.level = omega (arith, tall) in
    ap (slice_get (stack_at b s.place)) at ∙ spot_of_stands b x s e

pub on_top : (b : Stacks) (x : ℕ) → IsTrue (is_on_top b x) → (p : Place) × (top_at b p ≡ Some x)
on_top b x h = at_spot (spot_of b x) refl h
  where
    at_spot : (o : Option Spot) → spot_of b x ≡ o → IsTrue (is_top_spot b o) → (p : Place) × (top_at b p ≡ Some x)
    at_spot None e t = let wrong : false ≡ true = t in absurd (cc)
    at_spot (Some s) e t = (s.place, top_of_spot b x s e (eqb-true (s.level + 1) (height_at b s.place) t))

-- One piece more, and one less

module _ (b c : Stacks) (x : ℕ) (p : Place) (is_b : IsBoard b) (is_c : IsBoard c) (made : c ≡ put b x p) (ms after : List Bool) where
  new_at : (y : ℕ) → top_at c p ≡ Some y → y ≡ x
  new_at y top = let both : Some y ≡ Some x = sym top ∙ top_new b c x p is_b is_c made in cc

  apart_from : (q : Place) (y : ℕ) → q ≢ p → top_at b q ≡ Some y → top_at b p ≡ Some y → ⊥
  apart_from q y other at here = other (one_place b is_b y q p at here)

  module _ (stood : MarksTops b ms) (new : IsSet after x) (covered : (y : ℕ) → top_at b p ≡ Some y → IsSet after y → ⊥)
      (same : (y : ℕ) → y ≢ x → (top_at b p ≡ Some y → ⊥) → IsSet after y ↔ IsSet ms y) where
    tops_there : (y : ℕ) → IsSet after y → IsTrue (is_on_top c y)
    tops_there y set = elim (cases_eq y x) [
      | inl is ↦ subst (λ (z : ℕ). IsTrue (is_on_top c z)) (sym is) (top_on c is_c x p (top_new b c x p is_b is_c made))
      | inr apart ↦
          let r = on_top b y ((stood y).0 ((same y apart (λ here. covered y here set)).0 set)) in
          elim (cases_place r.0 p) [
            | inl at ↦ absurd (covered y (ap (top_at b) (sym at) ∙ r.1) set)
            | inr other ↦ top_on c is_c y r.0 (top_same b c x p is_b is_c made r.0 other ∙ r.1)
          ]
    ]

    tops_back : (y : ℕ) → IsTrue (is_on_top c y) → IsSet after y
    tops_back y h =
        let r = on_top c y h in
        elim (cases_place r.0 p) [
          | inl at ↦ subst (IsSet after) (sym (new_at y (ap (top_at c) (sym at) ∙ r.1))) new
          | inr other ↦
              let top = sym (top_same b c x p is_b is_c made r.0 other) ∙ r.1 in
              let apart : y ≢ x = (λ e. not_on b c x p is_b is_c made r.0 (top ∙ ap (λ (z : ℕ). Some z) e)) in
              (same y apart (apart_from r.0 y other top)).1 ((stood y).1 (top_on b is_b y r.0 top))
        ]

    pub tops_grown : MarksTops c after
    tops_grown y = (tops_there y, tops_back y)

  module _ (stood : MarksTops c ms) (off : IsSet after x → ⊥) (bared : (y : ℕ) → top_at b p ≡ Some y → IsSet after y)
      (same : (y : ℕ) → y ≢ x → (top_at b p ≡ Some y → ⊥) → IsSet after y ↔ IsSet ms y) where
    here_or_not : (y : ℕ) (o : Option ℕ) → top_at b p ≡ o → (top_at b p ≡ Some y) ⊎ (top_at b p ≡ Some y → ⊥)
    here_or_not y None e = inr (λ h. let wrong : None ≡ Some y = sym e ∙ h in cc)
    here_or_not y (Some z) e = elim (cases_eq z y) [
      | inl is ↦ inl (e ∙ ap (λ (v : ℕ). Some v) is)
      | inr other ↦ inr (λ h. let both : Some z ≡ Some y = sym e ∙ h in let is : z ≡ y = cc in other is)
    ]

    left_there : (y : ℕ) → IsSet after y → IsTrue (is_on_top b y)
    left_there y set =
        let apart : y ≢ x = (λ e. off (subst (IsSet after) e set)) in
        elim (here_or_not y (top_at b p) refl) [
          | inl here ↦ top_on b is_b y p here
          | inr not_here ↦
              let r = on_top c y ((stood y).0 ((same y apart not_here).0 set)) in
              elim (cases_place r.0 p) [
                | inl at ↦ absurd (apart (new_at y (ap (top_at c) (sym at) ∙ r.1)))
                | inr other ↦ top_on b is_b y r.0 (sym (top_same b c x p is_b is_c made r.0 other) ∙ r.1)
              ]
        ]

    left_back : (y : ℕ) → IsTrue (is_on_top b y) → IsSet after y
    left_back y h =
        let r = on_top b y h in
        elim (cases_place r.0 p) [
          | inl at ↦ bared y (ap (top_at b) (sym at) ∙ r.1)
          | inr other ↦
              let apart : y ≢ x = (λ e. not_on b c x p is_b is_c made r.0 (r.1 ∙ ap (λ (z : ℕ). Some z) e)) in
              (same y apart (apart_from r.0 y other r.1)).1 ((stood y).1 (top_on c is_c y r.0 (top_same b c x p is_b is_c made r.0 other ∙ r.1)))
        ]

    pub tops_shrunk : MarksTops b after
    tops_shrunk y = (left_there y, left_back y)

  -- as the code gives the marks
  module _ (first : List Bool) (others : (y : ℕ) → y ≢ x → IsSet first y ↔ IsSet ms y) where
    pub added_above : (below : ℕ) → Some below ≡ under_of c x → MarksTops b ms → IsSet first x → (IsSet after below ↔ IsTrue false) → ((y : ℕ) → y ≢ below → IsSet after y ↔ IsSet first y) → MarksTops c after
    added_above below at stood marked off kept = tops_grown stood new covered same
      where
        here : top_at b p ≡ Some below
        here = sym (at ∙ under_is b c x p is_b is_c made)

        apart : (y : ℕ) → (top_at b p ≡ Some y → ⊥) → y ≢ below
        apart y not_here e = not_here (here ∙ ap (λ (z : ℕ). Some z) (sym e))

        new : IsSet after x
        new = (kept x (apart x (λ top. not_on b c x p is_b is_c made p top))).1 marked

        covered : (y : ℕ) → top_at b p ≡ Some y → IsSet after y → ⊥
        covered y top set =
            let both : Some y ≡ Some below = sym top ∙ here in
            let is : y ≡ below = cc in
            let wrong : false ≡ true = off.0 (subst (IsSet after) is set) in
            cc

        same : (y : ℕ) → y ≢ x → (top_at b p ≡ Some y → ⊥) → IsSet after y ↔ IsSet ms y
        same y other not_here =
            let two = kept y (apart y not_here) in
            let one = others y other in
            (λ h. one.0 (two.0 h), λ h. two.1 (one.1 h))

    pub removed_above : (top : ℕ) → top_at b p ≡ Some top → MarksTops c ms → (IsSet first x → ⊥) → IsSet after top → ((y : ℕ) → y ≢ top → IsSet after y ↔ IsSet first y) → MarksTops b after
    removed_above top here stood unmarked marked kept = tops_shrunk stood off bared same
      where
        apart : (y : ℕ) → (top_at b p ≡ Some y → ⊥) → y ≢ top
        apart y not_here e = not_here (here ∙ ap (λ (z : ℕ). Some z) (sym e))

        off : IsSet after x → ⊥
        off set = unmarked ((kept x (apart x (λ at. not_on b c x p is_b is_c made p at))).0 set)

        bared : (y : ℕ) → top_at b p ≡ Some y → IsSet after y
        bared y at =
            let both : Some top ≡ Some y = sym here ∙ at in
            let is : top ≡ y = cc in
            subst (IsSet after) is marked

        same : (y : ℕ) → y ≢ x → (top_at b p ≡ Some y → ⊥) → IsSet after y ↔ IsSet ms y
        same y other not_here =
            let two = kept y (apart y not_here) in
            let one = others y other in
            (λ h. one.0 (two.0 h), λ h. two.1 (one.1 h))

  -- the place was empty
  none_above : None ≡ top_at b p → (y : ℕ) → top_at b p ≡ Some y → ⊥
  none_above none y top = let wrong : None ≡ Some y = none ∙ top in cc

  pub added_alone : None ≡ under_of c x → MarksTops b ms → IsSet after x → ((y : ℕ) → y ≢ x → IsSet after y ↔ IsSet ms y) → MarksTops c after
  added_alone none stood marked others =
      tops_grown stood marked (λ y top _. none_above (none ∙ under_is b c x p is_b is_c made) y top) (λ y other _. others y other)

  pub removed_alone : None ≡ top_at b p → MarksTops c ms → (IsSet after x → ⊥) → ((y : ℕ) → y ≢ x → IsSet after y ↔ IsSet ms y) → MarksTops b after
  removed_alone none stood unmarked others = tops_shrunk stood unmarked (λ y top. absurd (none_above none y top)) (λ y other _. others y other)

  -- Pieces that stand on others

  stands_new : StandsAt c x p (height_at b p)
  stands_new = subst (λ (d : Stacks). StandsAt d x p (height_at b p)) (sym made) (stands_on_top b x p)

  was_there : (y : ℕ) → y ≢ x → (q : Place) (level : ℕ) → StandsAt c y q level → StandsAt b y q level
  was_there y apart q level stands = elim (put_stands b x p y q level (subst (λ (d : Stacks). StandsAt d y q level) made stands)) [
    | inl old ↦ old
    | inr new ↦ absurd (apart new.0)
  ]

  pub high_grown : MarksHigh b ms → (h : ℕ) → h ≡ height_at c p → (IsSet after x ↔ IsTrue (nat_lt 1 h)) → ((y : ℕ) → y ≢ x → IsSet after y ↔ IsSet ms y) → MarksHigh c after
  high_grown stood h height given others y q level stands = elim (cases_eq y x) [
    | inl is ↦
        let same = is_c.once x q p level (height_at b p) (subst (λ (z : ℕ). StandsAt c z q level) is stands) stands_new in
        let raised = (subst (λ (d : Stacks). IsRaised b d p) (sym made) (raised_put b x p)).here in
        let at = same.1 in (
          λ set. let more = ltb-true 1 h (given.0 (subst (IsSet after) is set)) in omega (arith, more, height, raised, at),
          λ some. subst (IsSet after) (sym is) (given.1 (let more : 1 < h = omega (arith, some, height, raised, at) in lt-ltb 1 h more)),
        )
    | inr apart ↦
        let was = stood y q level (was_there y apart q level stands) in
        let kept = others y apart in
        (λ set. was.0 (kept.0 set), λ some. kept.1 (was.1 some))
  ]

  pub high_shrunk : MarksHigh c ms → MarksHigh b ms
  high_shrunk stood y q level stands = stood y q level (subst (λ (d : Stacks). StandsAt d y q level) (sym made) (stands_put b x p y q level stands))

-- The free pieces, by their bits

free_bit : (h m : ℕ) → h < 2 → m < 2 → min 1 (max h (1 - m)) ≡ cond (not (nat_eq m 1 && not (nat_eq h 1))) 1 0
free_bit zero zero a b = refl
free_bit zero (suc zero) a b = refl
free_bit (suc zero) zero a b = refl
free_bit (suc zero) (suc zero) a b = refl
free_bit zero (suc (suc m)) a b = absurd (omega (arith, b))
free_bit (suc zero) (suc (suc m)) a b = absurd (omega (arith, b))
free_bit (suc (suc h)) m a b = absurd (omega (arith, a))

module _ (b : Stacks) (is : IsBoard b) (t h m : ℕ) (tops high marks : List Bool) (t_is : flags t ≡ tops) (h_is : flags h ≡ high) (m_is : flags m ≡ marks)
    (t_low : t < 2 ^ 28) (m_low : m < 2 ^ 28) (on_tops : MarksTops b tops) (on_high : MarksHigh b high) (on_marks : MarksSeparating b marks) (x : ℕ) (low : x < 28) where
  top_bit : bit_at t x ≡ 1 → IsTrue (is_on_top b x)
  top_bit one = (on_tops x).0 (subst (λ (ms : List Bool). IsSet ms x) t_is (flag_of t x low one))

  bit_top : IsTrue (is_on_top b x) → bit_at t x ≡ 1
  bit_top top = (bit_of t x (subst (λ (ms : List Bool). IsSet ms x) (sym t_is) ((on_tops x).1 top))).1

  no_bit : is_on_top b x ≡ false → bit_at t x ≡ 0
  no_bit off = elim (cases_eq (bit_at t x) 1) [
    | inl one ↦ let wrong : false ≡ true = sym off ∙ top_bit one in absurd (cc)
    | inr other ↦ let less = bit_at-lt t x in omega (arith, less, other)
  ]

  module _ (s : Spot) (stands : spot_of b x ≡ Some s) (tall : s.level + 1 ≡ height_at b s.place) where
    abbrev is_held : Bool
    is_held = nat_eq (bit_at m x) 1 && not (nat_eq (bit_at h x) 1)

    here : top_at b s.place ≡ Some x
    here = top_of_spot b x s stands tall

    level_of : IsSet high x ↔ (0 < s.level)
    level_of = on_high x s.place s.level (spot_of_stands b x s stands)

    held_cut : (e d : Bool) → nat_eq (bit_at m x) 1 ≡ e → nat_eq (bit_at h x) 1 ≡ d → IsTrue (e && not d) ↔ IsCut b s.place
    held_cut true false e d = (
      λ _. record {
        alone = elim (cases_lt 0 s.level) [
          | inl some ↦ (let one = (bit_of h x (subst (λ (ms : List Bool). IsSet ms x) (sym h_is) (level_of.1 some))).1 in let wrong : false ≡ true = sym d ∙ eq-eqb (bit_at h x) 1 one in absurd (cc))
          | inr ground ↦ omega (arith, ground, tall)
        ];
        separates = (on_marks s.place x here).0 (subst (λ (ms : List Bool). IsSet ms x) m_is (flag_of m x low (eqb-true (bit_at m x) 1 e)));
      },
      λ _. refl,
    )
    held_cut true true e d = (
      λ w. let wrong : false ≡ true = w in absurd (cc),
      λ cut.
          let some = level_of.0 (subst (λ (ms : List Bool). IsSet ms x) h_is (flag_of h x low (eqb-true (bit_at h x) 1 d))) in
          let alone = cut.alone in
          absurd (omega (arith, some, tall, alone)),
    )
    held_cut false d e f = (
      λ w. let wrong : false ≡ true = w in absurd (cc),
      λ cut.
          let one = (bit_of m x (subst (λ (ms : List Bool). IsSet ms x) (sym m_is) ((on_marks s.place x here).1 cut.separates))).1 in
          let wrong : false ≡ true = sym e ∙ eq-eqb (bit_at m x) 1 one in
          absurd (cc),
    )

    free_here : not is_held ≡ is_free_piece b None x
    free_here = uncut_is b is x s is_held stands (eq-eqb (s.level + 1) (height_at b s.place) tall) (held_cut (nat_eq (bit_at m x) 1) (nat_eq (bit_at h x) 1) refl refl)

  bits_are : bit_at (bit_and t (bit_or h (bit_not w32 m))) x ≡ min (bit_at t x) (max (bit_at h x) (1 - bit_at m x))
  bits_are =
      let wide : m < 2 ^ 32 = omega (arith, m_low) in
      let within : x < 32 = omega (arith, low) in
      bit_at_and t (bit_or h (bit_not w32 m)) x ∙ ap (min (bit_at t x)) (bit_at_or h (bit_not w32 m) x ∙ ap (max (bit_at h x)) (bit_at_not w32 m x wide within))

  off_bit : is_on_top b x ≡ false → false ≡ is_free_piece b None x → bit_at (bit_and t (bit_or h (bit_not w32 m))) x ≡ cond (is_free_piece b None x) 1 0
  off_bit off free =
      let none : min 0 (max (bit_at h x) (1 - bit_at m x)) ≡ 0 = omega arith in
      bits_are ∙ ap (λ (n : ℕ). min n (max (bit_at h x) (1 - bit_at m x))) (no_bit off) ∙ none ∙ ap (λ (f : Bool). cond f 1 0) free

  at_spot : (o : Option Spot) → spot_of b x ≡ o → bit_at (bit_and t (bit_or h (bit_not w32 m))) x ≡ cond (is_free_piece b None x) 1 0
  at_spot None e = off_bit (ap (is_top_spot b) e) (sym (ap (λ (o : Option Spot). is_uncut_top b o) e))
  at_spot (Some s) e = at_top (nat_eq (s.level + 1) (height_at b s.place)) refl
    where
      at_top : (r : Bool) → nat_eq (s.level + 1) (height_at b s.place) ≡ r → bit_at (bit_and t (bit_or h (bit_not w32 m))) x ≡ cond (is_free_piece b None x) 1 0
      at_top false below = off_bit (ap (is_top_spot b) e ∙ below) (covered_is b x s e below)
      at_top true top =
          let one = bit_top (ap (is_top_spot b) e ∙ top) in
          bits_are ∙ ap (λ (n : ℕ). min n (max (bit_at h x) (1 - bit_at m x))) one ∙ free_bit (bit_at h x) (bit_at m x) (bit_at-lt h x) (bit_at-lt m x)
          ∙ ap (λ (f : Bool). cond f 1 0) (free_here s e (eqb-true (s.level + 1) (height_at b s.place) top))

  pub free_at : bit_at (bit_and t (bit_or h (bit_not w32 m))) x ≡ cond (is_free_piece b None x) 1 0
  free_at = at_spot (spot_of b x) refl

pub free_from : (b : Stacks) → IsBoard b → (t h m : ℕ) (tops high marks : List Bool) → flags t ≡ tops → flags h ≡ high → flags m ≡ marks → t < 2 ^ 28 → m < 2 ^ 28
    → MarksTops b tops → MarksHigh b high → MarksSeparating b marks → bit_and t (bit_or h (bit_not w32 m)) ≡ free_pieces b None
free_from b is t h m tops high marks t_is h_is m_is t_low m_low on_tops on_high on_marks =
    let less = and_le_l t (bit_or h (bit_not w32 m)) in
    mask_from (bit_and t (bit_or h (bit_not w32 m))) (is_free_piece b None) (let small : bit_and t (bit_or h (bit_not w32 m)) < 2 ^ 28 = omega (arith, less, t_low) in small)
    (λ x low. free_at b is t h m tops high marks t_is h_is m_is t_low m_low on_tops on_high on_marks x low)
