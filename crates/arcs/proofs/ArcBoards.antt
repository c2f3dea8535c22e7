-- The law of one arc, on boards.
use Rattle.std.proofs.Common.{◌≡◌, ◌≢◌, ◌↔◌, ℕ, ◌+◌, ◌<◌, arith, List, Bool, true, false, cond, not, ◌&&◌, [], ◌∷◌, ◌++◌, length, length-append, ◌⊎◌, inl, inr, refl, sym, ◌∙◌, ap, subst}
use Rattle.std.specs.Prelude.{IsTrue, nat_lt}
use Rattle.std.specs.List.{list_any}
use Rattle.std.proofs.lemmas.Bool.{and_from, and_parts, not_from_false, not-true, lt-ltb}
use Rattle.hive_model.specs.declared.places.Place.{Place}
use Rattle.hive_model.specs.declared.places.Dir.{Dir}
use Rattle.hive_model.specs.Places.{step, dir_before, is_place, AreNeighbours}
use Rattle.hive_model.specs.Boards.{Stacks, stack_at, height_at, is_occupied, places_of, put}
use Rattle.hive_model.specs.Lists.{IsPath}
use Rattle.hive_model.specs.Hive.{OneHive, OneHiveOn, StepOn, IsSeparating, except}
use Rattle.hive_model.proofs.PlaceLemmas.{is_place_itself, is_other_place, cases_place, false_place, from_same_place}
use Rattle.hive_model.proofs.BoardLemmas.{stack_at-put, stands_on, occupied_stands}
use Rattle.hive_model.proofs.RuleLaws.{any_has, has_any}
use Rattle.hive_model.proofs.ReachLaws.{step_moves}
use Rattle.arcs.specs.Arcs.{OneArc, OneArcLaw, ArcButOneLaw, AnotherBesideLaw, OneBesideLaw, OneArcIsNoCut}
use Rattle.arcs.proofs.ArcWalks.{one_without, one_with}

pub except_in : (o : Place → Bool) (v p : Place) → p ≢ v → IsTrue (o p) → IsTrue (except o v p)
except_in o v p apart there = and_from (not (is_place v p)) (o p) (not_from_false _ (is_other_place v p (λ e. apart (sym e)))) there

pub except_out : (o : Place → Bool) (v p : Place) → IsTrue (except o v p) → (p ≢ v) × IsTrue (o p)
except_out o v p h = let both = and_parts (not (is_place v p)) (o p) h in (λ e. false_place v p (not-true _ both.0) (sym e), both.1)

-- this place is one higher on the second board than on the first, and every other place as high
pub record IsRaised (b c : Stacks) (p : Place) : Type 0 where
  pub here : height_at c p ≡ height_at b p + 1
  pub others : (q : Place) → q ≢ p → height_at c q ≡ height_at b q

module _ (b c : Stacks) (p : Place) (raised : IsRaised b c p) (empty : height_at b p ≡ 0) where
  pub same_else : (q : Place) → q ≢ p → is_occupied c q ≡ is_occupied b q
  same_else q h = ap (nat_lt 0) (raised.others q h)

  was_or_new : (q r : Place) → IsTrue (except (is_occupied c) q r) → IsTrue (except (is_occupied b) q r) ⊎ (r ≡ p)
  was_or_new q r h = elim (cases_place r p) [ inl same ↦ inr same | inr other ↦ inl (ap (λ t. not (is_place q r) && t) (sym (same_else r other)) ∙ h) ]

  absent : (q : Place) → except (is_occupied b) q p ≡ false
  absent q = ap (λ n. not (is_place q p) && nat_lt 0 n) empty ∙ no (not (is_place q p))
    where
      no : (t : Bool) → (t && false) ≡ false
      no true = refl
      no false = refl

  still : (q r : Place) → IsTrue (except (is_occupied b) q r) → IsTrue (except (is_occupied c) q r)
  still q r h = elim (cases_place r p) [
    | inl same ↦ let wrong : false ≡ true = sym (absent q) ∙ ap (except (is_occupied b) q) (sym same) ∙ h in absurd (cc)
    | inr other ↦ ap (λ t. not (is_place q r) && t) (same_else r other) ∙ h
  ]

  -- if the neighbours without q form one arc, the places without q are one hive after exactly if
  -- they were before
  pub same_without : (q : Place) → OneArc (except (is_occupied b) q) p → OneHiveOn (except (is_occupied c) q) ↔ OneHiveOn (except (is_occupied b) q)
  same_without q arc = (
    λ h. one_without (except (is_occupied b) q) p arc (except (is_occupied c) q) (was_or_new q) (absent q) h (still q),
    λ h. one_with (except (is_occupied b) q) (except (is_occupied c) q) p (was_or_new q) (still q) arc.first arc.here h,
  )

  -- and so q is separating exactly if it was
  pub separates_same : (q : Place) → q ≢ p → OneArc (except (is_occupied b) q) p → IsSeparating c q ↔ IsSeparating b q
  separates_same q other arc =
      let same = same_without q arc in
      let on = same_else q other in
      (λ s. (sym on ∙ s.0, λ h. s.1 (same.1 h)), λ s. (on ∙ s.0, λ h. s.1 (same.0 h)))

  -- beside an occupied place other than q the place does not make q separating
  pub separated_before : (q : Place) → q ≢ p → (d : Dir) → IsTrue (is_occupied b (step p d)) → step p d ≢ q → IsSeparating c q → IsSeparating b q
  separated_before q other d on apart s = (
    sym (same_else q other) ∙ s.0,
    λ one. s.1 (one_with (except (is_occupied b) q) (except (is_occupied c) q) p (was_or_new q) (still q) d (except_in (is_occupied b) q (step p d) apart on) one),
  )

  -- beside one occupied place alone
  module _ (d : Dir) (on : IsTrue (is_occupied b (step p d))) (only : (e : Dir) → IsTrue (is_occupied b (step p e)) → e ≡ d) where
    -- no walk leads from the place around that neighbour
    no_way : (q : Place) → IsTrue (is_occupied b q) → (walk : List Place) → IsPath (StepOn (except (is_occupied c) (step p d))) p walk q → ⊥
    no_way q on_q [] h = let off : is_occupied b p ≡ false = ap (nat_lt 0) empty in let wrong : false ≡ true = sym off ∙ ap (is_occupied b) h ∙ on_q in cc
    no_way q on_q (r ∷ rs) h =
        let e = h.0.0.0 in
        let at = h.0.0.1 in
        let out = except_out (is_occupied c) (step p d) r h.0.1 in
        let moved : r ≢ p = (λ same. step_moves p e (at ∙ same)) in
        let there : IsTrue (is_occupied b (step p e)) = ap (is_occupied b) at ∙ sym (same_else r moved) ∙ out.1 in
        out.0 (sym at ∙ ap (step p) (only e there))

    -- it hangs on that neighbour, if there is another place
    pub hangs : (q : Place) → IsTrue (is_occupied b q) → q ≢ step p d → IsTrue (is_occupied c p) → IsSeparating c (step p d)
    hangs q on_q apart new = (
      same_else (step p d) (step_moves p d) ∙ on,
      λ one.
          let moved : q ≢ p = (λ same. let off : is_occupied b p ≡ false = ap (nat_lt 0) empty in let wrong : false ≡ true = sym off ∙ ap (is_occupied b) (sym same) ∙ on_q in cc) in
          let way = one p q (except_in (is_occupied c) (step p d) p (λ e. step_moves p d (sym e)) new) (except_in (is_occupied c) (step p d) q apart (same_else q moved ∙ on_q)) in
          no_way q on_q way.0 way.1.1,
    )

    -- and else is all that is left without it
    pub left_alone : ((q : Place) → IsTrue (is_occupied b q) → q ≡ step p d) → ¬ IsSeparating c (step p d)
    left_alone all s = s.1 (λ a z on_a on_z. ([], (on_a, is_new a on_a ∙ sym (is_new z on_z))))
      where
        is_new : (r : Place) → IsTrue (except (is_occupied c) (step p d) r) → r ≡ p
        is_new r h =
            let out = except_out (is_occupied c) (step p d) r h in
            elim (cases_place r p) [ inl same ↦ same | inr moved ↦ absurd (out.0 (all r (sym (same_else r moved) ∙ out.1))) ]

-- the neighbours stay, if what is gone is none of them
pub arc_without : (b : Stacks) (p q : Place) → ¬ AreNeighbours p q → OneArc (is_occupied b) p → OneArc (except (is_occupied b) q) p
arc_without b p q h arc = record {
  first = arc.first;
  here = same arc.first ∙ arc.here;
  before = same (dir_before arc.first) ∙ arc.before;
  only = λ d on off. arc.only d (sym (same d) ∙ on) (sym (same (dir_before d)) ∙ off);
}
  where
    same : (d : Dir) → except (is_occupied b) q (step p d) ≡ is_occupied b (step p d)
    same d = ap (λ t. not t && is_occupied b (step p d)) (is_other_place q (step p d) (λ e. h (d, sym e)))

pub raised_put : (b : Stacks) (x : ℕ) (p : Place) → IsRaised b (put b x p) p
raised_put b x p = record {
  here = ap length (stack_at-put b x p p) ∙ ap (λ t. length (cond t (stack_at b p ++ x ∷ []) (stack_at b p))) (is_place_itself p) ∙ length-append (stack_at b p) (x ∷ []);
  others = λ q h. ap length (stack_at-put b x p q) ∙ ap (λ t. length (cond t (stack_at b p ++ x ∷ []) (stack_at b q))) (is_other_place q p h);
}

-- the board that had no piece there is left
pub bare_new : (b c : Stacks) (p : Place) → IsRaised b c p → height_at b p ≡ 0 → OneHive b → OneHiveOn (except (is_occupied c) p)
bare_new b c p raised empty h = subst OneHiveOn (λ i r. same r i) h
  where
    same : (r : Place) → is_occupied b r ≡ except (is_occupied c) p r
    same r = elim (cases_place r p) [
      | inl e ↦ ap (is_occupied b) e ∙ ap (nat_lt 0) empty ∙ sym (ap (λ t. not t && is_occupied c r) (from_same_place p r (sym e)))
      | inr e ↦ sym (same_else b c p raised empty r e) ∙ sym (ap (λ t. not t && is_occupied c r) (is_other_place p r (λ f. e (sym f))))
    ]

-- The laws

pub law : OneArcLaw
law b x p empty before after arc =
    let raised = raised_put b x p in (
      λ s. s.1 (bare_new b (put b x p) p raised empty before),
      λ q other apart. separates_same b (put b x p) p raised empty q other (arc_without b p q apart arc),
    )

pub arc_but_one : ArcButOneLaw
arc_but_one b x p empty q other arc = separates_same b (put b x p) p (raised_put b x p) empty q other arc

pub another_beside : AnotherBesideLaw
another_beside b x p empty q other d on apart s = separated_before b (put b x p) p (raised_put b x p) empty q other d on apart s

-- a place other than n, if there is one
other_place : (b : Stacks) (n : Place) → ((q : Place) × IsTrue (is_occupied b q) × (q ≢ n)) ⊎ ((q : Place) → IsTrue (is_occupied b q) → q ≡ n)
other_place b n = elim (list_any (except (is_occupied b) n) (places_of b)) as (λ t. list_any (except (is_occupied b) n) (places_of b) ≡ t → ((q : Place) × IsTrue (is_occupied b q) × (q ≢ n)) ⊎ ((q : Place) → IsTrue (is_occupied b q) → q ≡ n)) [
  | true ↦ λ e. let found = any_has (except (is_occupied b) n) (places_of b) e in let out = except_out (is_occupied b) n found.0 found.2 in inl (found.0, out.1, out.0)
  | false ↦ λ e. inr (λ q on. elim (cases_place q n) [
    | inl same ↦ same
    | inr other ↦
        let stands = occupied_stands b q on in
        let wrong : false ≡ true = sym e ∙ has_any (except (is_occupied b) n) (places_of b) q (stands_on b stands.0 q 0 stands.1) (except_in (is_occupied b) n q other on) in
        absurd (cc)
  ])
] refl

pub one_beside : OneBesideLaw
one_beside b x p empty d on only =
    let c = put b x p in
    let raised = raised_put b x p in
    let some : 0 < height_at c p = (let h = raised.here in omega (arith, h)) in (
      λ s. elim (other_place b (step p d)) [ inl found ↦ found | inr all ↦ absurd (left_alone b c p raised empty d on only all s) ],
      λ found. hangs b c p raised empty d on only found.0 found.1 found.2 (lt-ltb 0 _ some),
    )

pub one_arc_no_cut : OneArcIsNoCut
one_arc_no_cut b one p arc s =
    s.1 (one_without (except (is_occupied b) p) p (arc_without b p p (λ n. step_moves p n.0 n.1) arc) (is_occupied b)
    (λ q on. elim (cases_place q p) [ inl same ↦ inr same | inr other ↦ inl (except_in (is_occupied b) p q other on) ])
    (ap (λ t. not t && is_occupied b p) (is_place_itself p)) one (λ q on. (except_out (is_occupied b) p q on).1))
