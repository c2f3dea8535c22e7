-- Euler's number on boards.
use Rattle.std.proofs.Common.{◌≡◌, ◌≢◌, ◌≤◌, ◌<◌, ℕ, ◌+◌, Bool, true, false, cond, not, ◌&&◌, ◌||◌, List, [], ◌∷◌, ◌++◌, length, take, length-take, inl, inr, refl, sym, ◌∙◌, ap, subst, arith, pos, ◌+ℤ◌, ◌-ℤ◌, ◌≤ℤ◌}
use Rattle.std.specs.Prelude.{IsTrue, Some, nat_lt, nat_le, map}
use Rattle.std.specs.List.{filter}
use Rattle.std.specs.FinMap.Entries.{is_sorted}
use Rattle.std.proofs.lemmas.Int.{ints}
use Rattle.std.proofs.lemmas.Bool.{lt-ltb, leb-true, leb-false}
use Rattle.hive_model.specs.declared.places.Place.{Place}
use Rattle.hive_model.specs.declared.places.Dir.{Dir}
use Rattle.hive_model.specs.declared.places.Dir.TheVariants.{E, NE, NW}
use Rattle.hive_model.specs.Lists.{IsOn}
use Rattle.hive_model.specs.Places.{place_cmp, is_place, step}
use Rattle.hive_model.specs.Neighbours.{ring, ring_mask}
use Rattle.hive_model.specs.Boards.{Stacks, stack_found, stack_at, height_at, is_occupied, places_of, put, lift, cleared}
use Rattle.hive_model.specs.Hive.{OneHive, on_list, except}
use Rattle.hive_model.proofs.PlaceLemmas.{places_total, exact_places, same_place, is_place_itself, is_other_place, cases_place, is_place_sym}
use Rattle.hive_model.proofs.Orders.{same_rising}
use Rattle.hive_model.proofs.BoardLemmas.{same_board, stack_at-cleared, stack_at-put, sorted-cleared, sorted-put, stacks-put, stacks-set_stack, lift_is, stack_left}
use Rattle.hive_model.proofs.NearLaws.{occupied_on, on_occupied}
use Rattle.hive_model.proofs.CountLaws.{places_rise}
use Rattle.hive_model.proofs.CutLaws.{occupied_cleared, to_cleared}
use Rattle.hive_model.proofs.ReachLaws.{step_moves}
use Rattle.hive_model.proofs.LiftLemmas.{lift_is_board}
use Rattle.arcs.specs.Masks.{arcs, how_many}
use Rattle.arcs.proofs.ArcBoards.{raised_put, same_else, except_in, except_out}
use Rattle.arcs.proofs.ArcWalks.{Joined}
use Rattle.euler.specs.Euler.{touching, triangles, euler_of, euler_number, arcs_at, PutLaw, PutOnLaw, ClearedLaw, LiftLaw, LiftOffLaw, PartsLaw, OneHiveLaw, FewArcsLaw, ArcsCutLaw, ManyArcsLaw}
use Rattle.euler.proofs.Counts.{one, Distinct, on_is, is_on, all_counted}
use Rattle.euler.proofs.Growing.{grown}
use Rattle.euler.proofs.Walks.{one_beside, few_hang}
use Rattle.euler.proofs.Parts.{distinct, few_parts}

-- A list without one of its places

none_gone : (p : Place) (ps : List Place) → on_list ps p ≡ false → filter (λ q. not (is_place p q)) ps ≡ ps
none_gone p [] h = refl
none_gone p (q ∷ ps) h = elim (is_place q p) as (λ t. is_place q p ≡ t → (t || on_list ps p) ≡ false → filter (λ q. not (is_place p q)) (q ∷ ps) ≡ q ∷ ps) [
  | true ↦ λ _ k. let wrong : true ≡ false = k in absurd (cc)
  | false ↦ λ e k.
      ap (λ t. cond (not t) (q ∷ filter (λ q. not (is_place p q)) ps) (filter (λ q. not (is_place p q)) ps)) (is_place_sym p q ∙ e)
      ∙ ap (λ (qs : List Place). q ∷ qs) (none_gone p ps k)
] refl h

taken_out : (t : Place → Bool) (p : Place) (ps : List Place) → Distinct ps → on_list ps p ≡ true → how_many t ps ≡ one (t p) + how_many t (filter (λ q. not (is_place p q)) ps)
taken_out t p [] apart h = let wrong : false ≡ true = h in absurd (cc)
taken_out t p (q ∷ ps) apart h =
    elim (is_place q p) as (λ s. is_place q p ≡ s → (s || on_list ps p) ≡ true → one (t q) + how_many t ps ≡ one (t p) + how_many t (filter (λ q. not (is_place p q)) (q ∷ ps))) [
      | true ↦ λ e _.
          let same = same_place q p e in
          let left : filter (λ q. not (is_place p q)) (q ∷ ps) ≡ ps =
          ap (λ s. cond (not s) (q ∷ filter (λ q. not (is_place p q)) ps) (filter (λ q. not (is_place p q)) ps)) (is_place_sym p q ∙ e)
          ∙ none_gone p ps (ap (on_list ps) (sym same) ∙ apart.0) in
          λ i. one (t (same i)) + how_many t (sym left i)
      | false ↦ λ e k.
          let kept : how_many t (filter (λ q. not (is_place p q)) (q ∷ ps)) ≡ one (t q) + how_many t (filter (λ q. not (is_place p q)) ps) =
          ap (λ s. how_many t (cond (not s) (q ∷ filter (λ q. not (is_place p q)) ps) (filter (λ q. not (is_place p q)) ps))) (is_place_sym p q ∙ e) in
          let rest = taken_out t p ps apart.1 k in
          omega (arith, kept, rest)
    ] refl h

places_cleared : (b : Stacks) (p : Place) → places_of (cleared b p) ≡ filter (λ q. not (is_place p q)) (places_of b)
places_cleared [] p = refl
places_cleared (e ∷ b) p = elim (is_place p e.0) as (λ t. map (λ e. e.0) (cond (not t) (e ∷ cleared b p) (cleared b p)) ≡ cond (not t) (e.0 ∷ filter (λ q. not (is_place p q)) (places_of b)) (filter (λ q. not (is_place p q)) (places_of b))) [
  | true ↦ places_cleared b p
  | false ↦ ap (λ (ps : List Place). e.0 ∷ ps) (places_cleared b p)
]

-- A map from places to lists that have a piece

abbrev pub Filled : Stacks → Type 0
Filled b = (p : Place) → stack_found b p ≢ Some []

occupied_is : (b : Stacks) → Filled b → (q : Place) → is_occupied b q ≡ on_list (places_of b) q
occupied_is b filled q = elim (is_occupied b q) as (λ t. is_occupied b q ≡ t → t ≡ on_list (places_of b) q) [
  | true ↦ λ e. sym (on_is (places_of b) q (occupied_on b q e))
  | false ↦ λ e. elim (on_list (places_of b) q) as (λ t. on_list (places_of b) q ≡ t → false ≡ t) [
    | true ↦ λ on. sym e ∙ on_occupied b filled q (is_on (places_of b) q on)
    | false ↦ λ _. refl
  ] refl
] refl

-- boards with the same occupied places have the same number
same_euler : (b c : Stacks) → IsTrue (is_sorted place_cmp b) → IsTrue (is_sorted place_cmp c) → Filled b → Filled c → ((q : Place) → is_occupied b q ≡ is_occupied c q) → euler_number b ≡ euler_number c
same_euler b c sb sc fb fc same =
    let places = same_rising places_total exact_places (places_of b) (places_of c) (places_rise b sb) (places_rise c sc)
    (λ q on. occupied_on c q (sym (same q) ∙ on_occupied b fb q on)) (λ q on. occupied_on b q (same q ∙ on_occupied c fc q on)) in
    λ i. euler_of (λ q. same q i) (places i)

module _ (b : Stacks) (sorted : IsTrue (is_sorted place_cmp b)) (filled : Filled b) (p : Place) (on : IsTrue (is_occupied b p)) where
  filled_rest : Filled (cleared b p)
  filled_rest = stacks-set_stack b p [] filled

  on_rest : (q : Place) → on_list (places_of (cleared b p)) q ≡ except (is_occupied b) p q
  on_rest q = sym (occupied_is (cleared b p) filled_rest q) ∙ occupied_cleared b p q

  off_rest : on_list (places_of (cleared b p)) p ≡ false
  off_rest = on_rest p ∙ ap (λ t. not t && is_occupied b p) (is_place_itself p)

  -- the place and the rest are all
  all_again : (q : Place) → on_list (p ∷ places_of (cleared b p)) q ≡ is_occupied b q
  all_again q = ap (λ t. is_place p q || t) (on_rest q) ∙ elim (is_place p q) as (λ t. is_place p q ≡ t → (t || (not t && is_occupied b q)) ≡ is_occupied b q) [
    | true ↦ λ e. sym (ap (is_occupied b) (sym (same_place p q e)) ∙ on)
    | false ↦ λ _. refl
  ] refl

  counted : (t : Place → Bool) → how_many t (places_of b) ≡ one (t p) + how_many t (places_of (cleared b p))
  counted t =
      taken_out t p (places_of b) (distinct (places_of b) (places_rise b sorted)) (sym (occupied_is b filled p) ∙ on)
      ∙ ap (λ (ps : List Place). one (t p) + how_many t ps) (sym (places_cleared b p))

  same_ring : ring (is_occupied (cleared b p)) p ≡ ring (is_occupied b) p
  same_ring = λ i d. at d i
    where
      at : (d : Dir) → is_occupied (cleared b p) (step p d) ≡ is_occupied b (step p d)
      at d = occupied_cleared b p (step p d) ∙ ap (λ t. not t && is_occupied b (step p d)) (is_other_place p (step p d) (λ e. step_moves p d (sym e)))

  pub cleared_euler : euler_number b ≡ (euler_number (cleared b p) +ℤ pos 1) -ℤ pos (arcs_at b p)
  cleared_euler =
      let qs = places_of (cleared b p) in
      let o = is_occupied b in
      let u = is_occupied (cleared b p) in
      let law = grown p qs (off_rest, distinct qs (places_rise (cleared b p) (sorted-cleared b p sorted))) in
      let whole : on_list (p ∷ qs) ≡ o = (λ i q. all_again q i) in
      let less : on_list qs ≡ u = (λ i q. sym (occupied_is (cleared b p) filled_rest q) i) in
      let threes : triangles (on_list (p ∷ qs)) (p ∷ qs) ≡ triangles o (p ∷ qs) = ap (λ s. triangles s (p ∷ qs)) whole in
      let pairs : touching (on_list (p ∷ qs)) (p ∷ qs) ≡ touching o (p ∷ qs) = ap (λ s. touching s (p ∷ qs)) whole in
      let old_threes : triangles (on_list qs) qs ≡ triangles u qs = ap (λ s. triangles s qs) less in
      let old_pairs : touching (on_list qs) qs ≡ touching u qs = ap (λ s. touching s qs) less in
      let round : arcs (ring_mask (ring (on_list qs) p)) ≡ arcs_at b p = ap (λ s. arcs (ring_mask (ring s p))) less ∙ ap (λ r. arcs (ring_mask r)) same_ring in
      let all_threes : triangles o (places_of b) ≡ triangles o (p ∷ qs) = (λ i. counted (λ q. o (step q E) && o (step q NE)) i + counted (λ q. o (step q NE) && o (step q NW)) i) in
      let all_pairs : touching o (places_of b) ≡ touching o (p ∷ qs) = (λ i. counted (λ q. o (step q E)) i + counted (λ q. o (step q NE)) i + counted (λ q. o (step q NW)) i) in
      let all = all_counted (places_of b) in
      let left = all_counted qs in
      let parted = counted (λ _. true) in
      let many : length (places_of b) ≡ length qs + 1 = omega (arith, all, left, parted) in
      omega (arith, ints, law, threes, pairs, old_threes, old_pairs, round, all_threes, all_pairs, many)

-- What a piece changes

put_is_raised : (b : Stacks) (x : ℕ) (p : Place) → 0 < height_at (put b x p) p
put_is_raised b x p = let h = (raised_put b x p).here in omega (arith, h)

arcs_same : (b c : Stacks) (p : Place) → ((d : Dir) → is_occupied b (step p d) ≡ is_occupied c (step p d)) → arcs_at b p ≡ arcs_at c p
arcs_same b c p same = λ i. arcs (ring_mask (λ d. same d i))

pub law_put : PutLaw
law_put b is x p empty =
    let c = put b x p in
    let sorted = sorted-put b p (stack_at b p ++ x ∷ []) is.in_order in
    let filled = stacks-put b x p is.stacks in
    let on : IsTrue (is_occupied c p) = lt-ltb 0 _ (put_is_raised b x p) in
    let back : cleared c p ≡ b = same_board (cleared c p) b (sorted-cleared c p sorted) is.in_order (stacks-set_stack c p [] filled) is.stacks (stacks_back b x p empty) in
    let round : arcs_at c p ≡ arcs_at b p = arcs_same c b p (λ d. same_else b c p (raised_put b x p) empty (step p d) (step_moves p d)) in
    cleared_euler c sorted filled p on ∙ (λ i. (euler_number (back i) +ℤ pos 1) -ℤ pos (round i))
  where
    nothing : (xs : List ℕ) → length xs ≡ 0 → xs ≡ []
    nothing [] h = refl
    nothing (y ∷ xs) h = absurd (omega (arith, h))

    stacks_back : (b : Stacks) (x : ℕ) (p : Place) → height_at b p ≡ 0 → (q : Place) → stack_at (cleared (put b x p) p) q ≡ stack_at b q
    stacks_back b x p empty q =
        stack_at-cleared (put b x p) p q
        ∙ elim (is_place p q) as (λ t. is_place p q ≡ t → cond (not t) (stack_at (put b x p) q) [] ≡ stack_at b q) [
          | true ↦ λ e. sym (ap (stack_at b) (sym (same_place p q e)) ∙ nothing (stack_at b p) empty)
          | false ↦ λ e. stack_at-put b x p q ∙ ap (λ t. cond t (stack_at b p ++ x ∷ []) (stack_at b q)) (is_place_sym q p ∙ e)
        ] refl

pub law_put_on : PutOnLaw
law_put_on b is x p high =
    let raised = raised_put b x p in
    same_euler (put b x p) b (sorted-put b p (stack_at b p ++ x ∷ []) is.in_order) is.in_order (stacks-put b x p is.stacks) is.stacks (λ q. elim (cases_place q p) [
      | inl same ↦ ap (is_occupied (put b x p)) same ∙ lt-ltb 0 _ (put_is_raised b x p) ∙ sym (ap (is_occupied b) same ∙ lt-ltb 0 _ high)
      | inr other ↦ ap (nat_lt 0) (raised.others q other)
    ])

pub law_cleared : ClearedLaw
law_cleared b is p on = cleared_euler b is.in_order is.stacks p on

pub law_lift : LiftLaw
law_lift b is x p stands alone =
    let high : 0 < height_at b p = omega (arith, alone) in
    let lifted : lift b x ≡ cleared b p = lift_is b is x p 0 stands alone in
    law_cleared b is p (lt-ltb 0 _ high) ∙ ap (λ c. (euler_number c +ℤ pos 1) -ℤ pos (arcs_at b p)) (sym lifted)

pub law_lift_off : LiftOffLaw
law_lift_off b is x p level stands top low =
    let lifted = lift_is_board b is x p level stands top in
    let size : length (take level (stack_at b p)) ≡ level = (let h = length-take level (stack_at b p) in omega (arith, h, top)) in
    let high : 0 < height_at b p = omega (arith, top) in
    let some : 0 < length (take level (stack_at b p)) = omega (arith, size, low) in
    same_euler (lift b x) b lifted.in_order is.in_order lifted.stacks is.stacks (λ q.
    ap (λ xs. nat_lt 0 (length xs)) (stack_left b is x p level stands top q)
    ∙ elim (is_place q p) as (λ t. is_place q p ≡ t → nat_lt 0 (length (cond t (take level (stack_at b p)) (stack_at b q))) ≡ is_occupied b q) [
      | true ↦ λ e. lt-ltb 0 _ some ∙ sym (ap (is_occupied b) (same_place q p e) ∙ lt-ltb 0 _ high)
      | false ↦ λ _. refl
    ] refl)

-- Parts

module _ (b : Stacks) (sorted : IsTrue (is_sorted place_cmp b)) (filled : Filled b) where
  parts : (ends : List Place) → ((p : Place) → IsTrue (is_occupied b p) → (q : Place) × IsOn ends q × Joined (is_occupied b) p q) → euler_number b ≤ℤ pos (length ends)
  parts ends lead =
      let same : is_occupied b ≡ on_list (places_of b) = (λ i q. occupied_is b filled q i) in
      let few = few_parts (places_of b) (places_rise b sorted) ends (subst (λ o. (p : Place) → IsTrue (o p) → (q : Place) × IsOn ends q × Joined o p q) same lead) in
      let threes : triangles (is_occupied b) (places_of b) ≡ triangles (on_list (places_of b)) (places_of b) = ap (λ o. triangles o (places_of b)) same in
      let pairs : touching (is_occupied b) (places_of b) ≡ touching (on_list (places_of b)) (places_of b) = ap (λ o. touching o (places_of b)) same in
      omega (arith, ints, few, threes, pairs)

  one_part : OneHive b → euler_number b ≤ℤ pos 1
  one_part one = from_places (places_of b) refl
    where
      from_places : (ps : List Place) → places_of b ≡ ps → euler_number b ≤ℤ pos 1
      from_places [] e = let none = parts [] (λ p on. absurd (subst (λ ps. IsOn ps p) e (occupied_on b p on))) in omega (arith, ints, none)
      from_places (p ∷ ps) e =
          let on = on_occupied b filled p (subst (λ ps. IsOn ps p) (sym e) (inl refl)) in
          parts (p ∷ []) (λ q on_q. let way = one q p on_q on in (p, inl refl, (way.0, way.1.1)))

pub law_parts : PartsLaw
law_parts b is ends lead = parts b is.in_order is.stacks ends (λ p on. let led = lead p on in (led.0, led.1, (led.2.0, led.2.1.1)))

pub law_one : OneHiveLaw
law_one b is one = one_part b is.in_order is.stacks one

-- Cut places by their arcs

pub law_few : FewArcsLaw
law_few b one p few s =
    let o = is_occupied b in
    let round : arcs (ring_mask (ring (except o p) p)) ≤ 1 = (let same = arcs_but in omega (arith, few, same)) in
    s.1 (one_beside o (except o p) p
    (λ q on. elim (cases_place q p) [ inl same ↦ inr same | inr other ↦ inl (except_in o p q other on) ]) one
    (λ q on. (except_out o p q on).1) (few_hang (except o p) p round))
  where
    arcs_but : arcs (ring_mask (ring (except (is_occupied b) p) p)) ≡ arcs_at b p
    arcs_but = λ i. arcs (ring_mask (λ d. ap (λ t. not t && is_occupied b (step p d)) (is_other_place p (step p d) (λ e. step_moves p d (sym e))) i))

pub law_many : ManyArcsLaw
law_many b is p on more = (
  on,
  λ left.
      let most = one_part (cleared b p) (sorted-cleared b p is.in_order) (stacks-set_stack b p [] is.stacks) (to_cleared b p left) in
      let less = law_cleared b is p on in
      omega (arith, ints, most, less, more),
)

pub law_cut : ArcsCutLaw
law_cut b is one whole p on = (
  λ s. elim (nat_le (arcs_at b p) 1) as (λ t. nat_le (arcs_at b p) 1 ≡ t → 2 ≤ arcs_at b p) [
    | true ↦ λ e. absurd (law_few b one p (leb-true _ _ e) s)
    | false ↦ λ e. let more = leb-false _ _ e in omega (arith, more)
  ] refl,
  λ more. law_many b is p on (omega (arith, ints, whole, more)),
)
