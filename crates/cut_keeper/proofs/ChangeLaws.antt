-- What one piece more on a board changes, and so, read backwards, one piece less.
use Rattle.std.proofs.Common.{◌≡◌, ◌≢◌, ◌↔◌, ℕ, ◌-◌, ◌<◌, ◌≤◌, Bool, true, false, cond, not, ◌&&◌, List, [], ◌∷◌, ◌++◌, ◌⊎◌, inl, inr, refl, sym, ◌∙◌, ap, subst, arith}
use Rattle.std.specs.Prelude.{Option, Some, None, is_none, is_some, IfSome, slice_get, IsTrue, nat_lt}
use Rattle.std.proofs.lemmas.Bool.{lt-ltb, ltb-true}
use Rattle.hive_model.specs.declared.places.Place.{Place}
use Rattle.hive_model.specs.declared.places.Dir.{Dir}
use Rattle.hive_model.specs.Lists.{IsOn, IsPath}
use Rattle.hive_model.specs.Places.{is_place, step, dirs, AreNeighbours}
use Rattle.hive_model.specs.Boards.{Stacks, stack_at, height_at, is_occupied, top_at, top_of, under_of, put, lift, StandsAt, IsBoard}
use Rattle.hive_model.specs.Hive.{OneHive, OneHiveOn, StepOn, IsSeparating, except, are_neighbours}
use Rattle.hive_model.proofs.PlaceLemmas.{cases_place, is_other_place}
use Rattle.hive_model.proofs.BoardLemmas.{stack_at-put, stands_put, stands_on_top}
use Rattle.hive_model.proofs.GetLemmas.{get_within}
use Rattle.hive_model.proofs.LiftLemmas.{top_here}
use Rattle.hive_model.proofs.BackLaws.{lift_put}
use Rattle.hive_model.proofs.LegalLaws.{neighbour_back}
use Rattle.hive_model.proofs.ReachLaws.{step_moves}
use Rattle.hive_model.proofs.RuleLaws.{neighbours_from, from_neighbours, dir_on, step_once}
use Rattle.arcs.specs.Arcs.{OneArc}
use Rattle.arcs.proofs.ArcBoards.{IsRaised, raised_put, same_else, bare_new, arc_without, separates_same, separated_before, hangs, left_alone}
use Rattle.one_hive.specs.Visits.{IsSet}
use Rattle.one_hive.specs.Separating.{MarksSeparating}
use Rattle.one_hive.proofs.Visiting.{top_occupied}
use Rattle.hive_model.specs.Neighbours.{ring, ring_mask, weight}
use Rattle.cut_keeper.specs.Rings.{is_suspect}
use Rattle.cut_keeper.specs.Keeping.{Right, HalfRight, Pending, RightBut}
use Rattle.cut_keeper.proofs.KeepingLaws.{handed_on, has_top}
use Rattle.cut_keeper.proofs.RingLaws.{arc_unsuspected, only_from, another_from, suspect_occupied}

-- no value, by the answer of the code
pub none_answer : {X : Type 0} (o : Option X) (r : Bool) → is_some o ≡ not r → r ≡ is_none o
none_answer None true e = refl
none_answer None false e = let wrong : false ≡ true = e in absurd (cc)
none_answer (Some x) true e = let wrong : true ≡ false = e in absurd (cc)
none_answer (Some x) false e = refl

-- two sets that have the same places
module _ (b c : Stacks) (same : (r : Place) → is_occupied c r ≡ is_occupied b r) where
  pub same_separating : (q : Place) → IsSeparating c q ↔ IsSeparating b q
  same_separating q =
      let sets : except (is_occupied c) q ≡ except (is_occupied b) q = (λ i r. not (is_place q r) && same r i) in
      (λ s. (sym (same q) ∙ s.0, λ h. s.1 (subst OneHiveOn (sym sets) h)), λ s. (same q ∙ s.0, λ h. s.1 (subst OneHiveOn sets h)))

module _ (b c : Stacks) (x : ℕ) (p : Place) (is_b : IsBoard b) (is_c : IsBoard c) (made : c ≡ put b x p) where
  raised : IsRaised b c p
  raised = subst (λ d. IsRaised b d p) (sym made) (raised_put b x p)

  stands_new : StandsAt c x p (height_at b p)
  stands_new = subst (λ d. StandsAt d x p (height_at b p)) (sym made) (stands_on_top b x p)

  pub now_occupied : IsTrue (is_occupied c p)
  now_occupied = let some : 0 < height_at c p = (let h = raised.here in omega (arith, h)) in lt-ltb 0 _ some

  pub top_new : top_at c p ≡ Some x
  top_new =
      let at : height_at c p - 1 ≡ height_at b p = (let h = raised.here in omega (arith, h)) in
      ap (slice_get (stack_at c p)) at ∙ stands_new

  pub top_same : (q : Place) → q ≢ p → top_at c q ≡ top_at b q
  top_same q other = ap (λ d. top_at d q) made ∙ ap top_of (stack_at-put b x p q ∙ ap (λ t. cond t (stack_at b p ++ x ∷ []) (stack_at b q)) (is_other_place q p other))

  gone : (r : Place) (i : ℕ) → StandsAt b x r i → ⊥
  gone r i stands =
      let on : StandsAt c x r i = subst (λ d. StandsAt d x r i) (sym made) (stands_put b x p x r i stands) in
      let same = is_c.once x r p i (height_at b p) on stands_new in
      let low = get_within (stack_at b r) i x stands in
      let high : i ≡ height_at b r = same.1 ∙ ap (height_at b) (sym same.0) in
      omega (arith, low, high)

  pub not_on : (q : Place) → top_at b q ≡ Some x → ⊥
  not_on q top = gone q (height_at b q - 1) top

  -- on a place that was occupied, the piece is on the one that was on top
  pub under_is : under_of c x ≡ top_at b p
  under_is =
      let back : lift c x ≡ b = ap (λ d. lift d x) made ∙ lift_put b x p is_b (is_c.pieces p (height_at b p) x stands_new) (is_c.within p now_occupied) gone in
      sym (top_here c is_c x p (height_at b p) stands_new raised.here) ∙ ap (λ d. top_at d p) back

  pub same_occupied : 0 < height_at b p → (r : Place) → is_occupied c r ≡ is_occupied b r
  same_occupied some r = elim (cases_place r p) [
    | inl same ↦ ap (is_occupied c) same ∙ now_occupied ∙ sym (ap (is_occupied b) same ∙ lt-ltb 0 _ some)
    | inr other ↦ ap (nat_lt 0) (raised.others r other)
  ]

  pub empty_before : height_at c p ≤ 1 → height_at b p ≡ 0
  empty_before low = let h = raised.here in omega (arith, low, h)

  was_high : 1 < height_at c p → 0 < height_at b p
  was_high high = let h = raised.here in omega (arith, high, h)

  pub above_then : 1 < height_at c p → (below : ℕ) → Some below ≡ under_of c x → (ms after : List Bool) → (IsSet after x ↔ IsSet ms below) → ((y : ℕ) → y ≢ x → IsSet after y ↔ IsSet ms y) → MarksSeparating b ms → MarksSeparating c after
  above_then high below at ms after to others stood =
      handed_on b c p below x is_c (sym (at ∙ under_is)) top_new top_same (same_separating b c (same_occupied (was_high high))) ms after to others stood

  pub above_else : 1 < height_at c p → None ≡ under_of c x → ⊥
  above_else high none = let r = has_top b p (was_high high) in let wrong : None ≡ Some r.0 = none ∙ under_is ∙ r.1 in cc

  pub taken_above : (top : ℕ) → top_at b p ≡ Some top → (ms after : List Bool) → (IsSet after top ↔ IsSet ms x) → ((y : ℕ) → y ≢ top → IsSet after y ↔ IsSet ms y) → MarksSeparating c ms → MarksSeparating b after
  taken_above top at ms after to others stood =
      let some = ltb-true 0 _ (top_occupied b p top at) in
      let same = same_separating b c (same_occupied some) in
      handed_on c b p x top is_b top_new at (λ q other. sym (top_same q other)) (λ q. (λ s. (same q).1 s, λ s. (same q).0 s)) ms after to others stood

  -- what the new piece's mark was says nothing of the board before
  pub unmarked_before : (ms after : List Bool) → ((y : ℕ) → y ≢ x → IsSet after y ↔ IsSet ms y) → MarksSeparating b ms → MarksSeparating b after
  unmarked_before ms after others stood q y top =
      let apart : y ≢ x = (λ e. not_on q (top ∙ ap (λ (z : ℕ). Some z) e)) in
      let was = stood q y top in
      (λ set. was.0 ((others y apart).0 set), λ sep. (others y apart).1 (was.1 sep))

  -- a place that was empty
  module _ (empty : height_at b p ≡ 0) where
    was_empty : is_occupied b p ≡ false
    was_empty = ap (nat_lt 0) empty

    was_other : (q : Place) → IsTrue (is_occupied b q) → q ≢ p
    was_other q on same = let wrong : false ≡ true = sym was_empty ∙ ap (is_occupied b) (sym same) ∙ on in cc

    ring_same : ring (is_occupied c) p ≡ ring (is_occupied b) p
    ring_same = λ i d. same_else b c p raised empty (step p d) (step_moves p d) i

    pub never_new : OneHive b → IsSeparating c p → ⊥
    never_new one s = s.1 (bare_new b c p raised empty one)

    pub arc_below : OneArc (is_occupied c) p → OneArc (is_occupied b) p
    arc_below arc = record {
      first = arc.first;
      here = sym (at arc.first) ∙ arc.here;
      before = sym (at _) ∙ arc.before;
      only = λ d on off. arc.only d (at d ∙ on) (at _ ∙ off);
    }
      where
        at : (d : Dir) → is_occupied c (step p d) ≡ is_occupied b (step p d)
        at d = same_else b c p raised empty (step p d) (step_moves p d)

    -- each other place is separating if it was, or is a suspect
    same_or_suspect : OneArc (is_occupied b) p → (q : Place) → q ≢ p → IsTrue (is_occupied b q) → (IsSeparating c q ↔ IsSeparating b q) ⊎ ((d : Dir) × (step p d ≡ q) × (is_suspect (ring (is_occupied b) p) d ≡ true))
    same_or_suspect arc q other on = elim (are_neighbours p q) as (λ t. are_neighbours p q ≡ t → (IsSeparating c q ↔ IsSeparating b q) ⊎ ((d : Dir) × (step p d ≡ q) × (is_suspect (ring (is_occupied b) p) d ≡ true))) [
      | false ↦ λ e. inl (separates_same b c p raised empty q other (arc_without b p q (λ n. let wrong : false ≡ true = sym e ∙ from_neighbours p q n in cc) arc))
      | true ↦ λ e.
          let n = neighbours_from p q e in
          elim (is_suspect (ring (is_occupied b) p) n.0) as (λ t. is_suspect (ring (is_occupied b) p) n.0 ≡ t → (IsSeparating c q ↔ IsSeparating b q) ⊎ ((d : Dir) × (step p d ≡ q) × (is_suspect (ring (is_occupied b) p) d ≡ true))) [
            | true ↦ λ s. inr (n.0, n.1, s)
            | false ↦ λ s.
                let one = arc_unsuspected (is_occupied b) p n.0 (ap (is_occupied b) n.1 ∙ on) s in
                inl (separates_same b c p raised empty q other (subst (λ z. OneArc (except (is_occupied b) z) p) n.1 one))
          ] refl
    ] refl

    occupied_or_not : (q : Place) → IsTrue (is_occupied b q) ⊎ (is_occupied b q ≡ false)
    occupied_or_not q = elim (is_occupied b q) as (λ t. IsTrue t ⊎ (t ≡ false)) [ true ↦ inl refl | false ↦ inr refl ]

    module _ (one : OneHive b) (ms : List Bool) where
      -- One piece more

      module _ (stood : MarksSeparating b ms) (unmarked : IsSet ms x → ⊥) where
        grown_places : OneArc (is_occupied b) p → (q : Place) → Right c ms q ⊎ ((d : Dir) × (step p d ≡ q) × (is_suspect (ring (is_occupied c) p) d ≡ true))
        grown_places arc q = elim (cases_place q p) as (λ _. Right c ms q ⊎ ((d : Dir) × (step p d ≡ q) × (is_suspect (ring (is_occupied c) p) d ≡ true))) [
          | inl same ↦ inl (λ y top. (
            λ set.
                let both : Some y ≡ Some x = sym top ∙ ap (top_at c) same ∙ top_new in
                let is : y ≡ x = cc in
                absurd (unmarked (subst (IsSet ms) is set)),
            λ sep. absurd (never_new one (subst (IsSeparating c) same sep)),
          ))
          | inr other ↦ elim (occupied_or_not q) as (λ _. Right c ms q ⊎ ((d : Dir) × (step p d ≡ q) × (is_suspect (ring (is_occupied c) p) d ≡ true))) [
            | inr off ↦ inl (λ y top. let wrong : false ≡ true = sym off ∙ top_occupied b q y (sym (top_same q other) ∙ top) in absurd (cc))
            | inl on ↦ elim (same_or_suspect arc q other on) [
              | inl same ↦ inl (λ y top.
                  let was = stood q y (sym (top_same q other) ∙ top) in
                  (λ set. same.1 (was.0 set), λ sep. was.1 (same.0 sep)))
              | inr (d, leads, s) ↦ inr (d, leads, subst (λ r. is_suspect r d ≡ true) (sym ring_same) s)
            ]
          ]
        ]

        grown_half : (d e : Dir) → IsTrue (is_occupied b (step p e)) → e ≢ d → HalfRight c ms (step p d) true
        grown_half d e on apart y top sep =
            let n = step p d in
            (stood n y (sym (top_same n (step_moves p d)) ∙ top)).1 (separated_before b c p raised empty n (step_moves p d) e on (λ same. apart (step_once p e d same)) sep)

        pub grown_pending : OneArc (is_occupied c) p → (m : ℕ) → m ≡ ring_mask (ring (is_occupied c) p) → ((d : Dir) → m ≢ weight d) → Pending c p true dirs ms
        grown_pending arc m is more = λ q. elim (grown_places (arc_below arc) q) as (λ _. Right c ms q ⊎ ((d : Dir) × IsOn dirs d × (step p d ≡ q) × (is_suspect (ring (is_occupied c) p) d ≡ true) × HalfRight c ms q true)) [
          | inl right ↦ inl right
          | inr (d, leads, s) ↦
              let another = another_from (ring (is_occupied c) p) d (λ e. more d (is ∙ e)) (suspect_occupied c p d s) in
              let there : IsTrue (is_occupied b (step p another.0)) = sym (same_else b c p raised empty (step p another.0) (step_moves p another.0)) ∙ another.1 in
              inr (d, dir_on d, leads, s, subst (λ z. HalfRight c ms z true) leads (grown_half d another.0 there another.2))
        ]

        pub grown_but : OneArc (is_occupied c) p → (d : Dir) → weight d ≡ ring_mask (ring (is_occupied c) p) → RightBut c (step p d) ms
        grown_but arc d is = λ q other. elim (grown_places (arc_below arc) q) [
          | inl right ↦ right
          | inr (e, leads, s) ↦
              let only = (only_from (ring (is_occupied c) p) d (sym is)).1 in
              absurd (other (sym leads ∙ ap (step p) (only e (suspect_occupied c p e s))))
        ]

      -- One piece less

      module _ (stood : MarksSeparating c ms) where
        shrunk_places : OneArc (is_occupied b) p → (q : Place) → Right b ms q ⊎ ((d : Dir) × (step p d ≡ q) × (is_suspect (ring (is_occupied b) p) d ≡ true))
        shrunk_places arc q = elim (occupied_or_not q) as (λ _. Right b ms q ⊎ ((d : Dir) × (step p d ≡ q) × (is_suspect (ring (is_occupied b) p) d ≡ true))) [
          | inr off ↦ inl (λ y top. let wrong : false ≡ true = sym off ∙ top_occupied b q y top in absurd (cc))
          | inl on ↦ elim (same_or_suspect arc q (was_other q on) on) [
            | inl same ↦ inl (λ y top.
                let was = stood q y (top_same q (was_other q on) ∙ top) in
                (λ set. same.0 (was.0 set), λ sep. was.1 (same.1 sep)))
            | inr (d, leads, s) ↦ inr (d, leads, s)
          ]
        ]

        shrunk_half : (d e : Dir) → IsTrue (is_occupied b (step p e)) → e ≢ d → HalfRight b ms (step p d) false
        shrunk_half d e on apart y top set =
            let n = step p d in
            separated_before b c p raised empty n (step_moves p d) e on (λ same. apart (step_once p e d same)) ((stood n y (top_same n (step_moves p d) ∙ top)).0 set)

        pub shrunk_pending : OneArc (is_occupied b) p → (m : ℕ) → m ≡ ring_mask (ring (is_occupied b) p) → ((d : Dir) → m ≢ weight d) → Pending b p false dirs ms
        shrunk_pending arc m is more = λ q. elim (shrunk_places arc q) as (λ _. Right b ms q ⊎ ((d : Dir) × IsOn dirs d × (step p d ≡ q) × (is_suspect (ring (is_occupied b) p) d ≡ true) × HalfRight b ms q false)) [
          | inl right ↦ inl right
          | inr (d, leads, s) ↦
              let another = another_from (ring (is_occupied b) p) d (λ e. more d (is ∙ e)) (suspect_occupied b p d s) in
              inr (d, dir_on d, leads, s, subst (λ z. HalfRight b ms z false) leads (shrunk_half d another.0 another.1 another.2))
        ]

        pub shrunk_but : OneArc (is_occupied b) p → (d : Dir) → weight d ≡ ring_mask (ring (is_occupied b) p) → RightBut b (step p d) ms
        shrunk_but arc d is = λ q other. elim (shrunk_places arc q) [
          | inl right ↦ right
          | inr (e, leads, s) ↦
              let only = (only_from (ring (is_occupied b) p) d (sym is)).1 in
              absurd (other (sym leads ∙ ap (step p) (only e (suspect_occupied b p e s))))
        ]

      -- Beside one place alone: whether that place has another neighbour

      module _ (d : Dir) (is : weight d ≡ ring_mask (ring (is_occupied c) p)) (m : ℕ) (mask : m ≡ ring_mask (ring (is_occupied c) (step p d))) where
        on_next : IsTrue (is_occupied b (step p d))
        on_next = sym (same_else b c p raised empty (step p d) (step_moves p d)) ∙ (only_from (ring (is_occupied c) p) d (sym is)).0

        only_next : (e : Dir) → IsTrue (is_occupied b (step p e)) → e ≡ d
        only_next e on = (only_from (ring (is_occupied c) p) d (sym is)).1 e (same_else b c p raised empty (step p e) (step_moves p e) ∙ on)

        way_back : AreNeighbours (step p d) p
        way_back = neighbour_back p (step p d) (d, refl)

        pub holds_others : ((e : Dir) → m ≢ weight e) → IsSeparating c (step p d)
        holds_others more =
            let n = step p d in
            let e0 = way_back.0 in
            let another = another_from (ring (is_occupied c) n) e0 (λ e. more e0 (mask ∙ e)) (ap (is_occupied c) way_back.1 ∙ now_occupied) in
            let q = step n another.0 in
            let other : q ≢ p = (λ same. another.2 (step_once n another.0 e0 (same ∙ sym way_back.1))) in
            hangs b c p raised empty d on_next only_next q (sym (same_else b c p raised empty q other) ∙ another.1) (step_moves n another.0) now_occupied

        pub holds_none : (e : Dir) → m ≡ weight e → ¬ IsSeparating c (step p d)
        holds_none e0 one_bit = left_alone b c p raised empty d on_next only_next (λ q on. elim (cases_place q (step p d)) [
          | inl same ↦ same
          | inr other ↦ let w = one (step p d) q on_next on in absurd (no_first q other w.0 w.1.1)
        ])
          where
            only_back : (e : Dir) → IsTrue (is_occupied c (step (step p d) e)) → e ≡ way_back.0
            only_back e on =
                let r = ring (is_occupied c) (step p d) in
                let only = (only_from r e0 (sym mask ∙ one_bit)).1 in
                only e on ∙ sym (only way_back.0 (ap (is_occupied c) way_back.1 ∙ now_occupied))

            no_first : (q : Place) → q ≢ step p d → (walk : List Place) → IsPath (StepOn (is_occupied b)) (step p d) walk q → ⊥
            no_first q other [] h = other (sym h)
            no_first q other (r ∷ rs) h =
                let e = h.0.0.0 in
                let at = h.0.0.1 in
                let apart = was_other r h.0.1 in
                let there : IsTrue (is_occupied c (step (step p d) e)) = ap (is_occupied c) at ∙ same_else b c p raised empty r apart ∙ h.0.1 in
                apart (sym at ∙ ap (step (step p d)) (only_back e there) ∙ way_back.1)

        pub holds_test : (o : Option Dir) → IfSome o (λ e. m ≡ weight e) → (o ≡ None → (e : Dir) → m ≢ weight e) → IsTrue (is_none o) ↔ IsSeparating c (step p d)
        holds_test None some none = (λ _. holds_others (none refl), λ _. refl)
        holds_test (Some e) some none = (λ h. let wrong : false ≡ true = h in absurd (cc), λ sep. absurd (holds_none e some sep))
