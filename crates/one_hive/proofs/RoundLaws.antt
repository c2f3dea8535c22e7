-- One hive without a place: its neighbours tell.
use Rattle.std.proofs.Common.{◌≡◌, ◌≢◌, ◌↔◌, ◌⊎◌, ℕ, ◌<◌, ◌^◌, Bool, true, false, not, nat_eq, List, [], ◌∷◌, inl, inr, refl, sym, ◌∙◌, ap, subst, arith, bit_or}
use Rattle.std.specs.Prelude.{Some, IsTrue}
use Rattle.std.specs.Int.{bit_at}
use Rattle.std.proofs.lemmas.Bool.{and_from, and_parts, not_from_false, not-true, eq-eqb, eqb-true, cases_eq, cases_lt}
use Rattle.std.proofs.lemmas.Nat.Bits.{bit_at-lt, bit_at_or, bit_at_above, same_from_bits}
use Rattle.hive_model.specs.declared.places.Place.{Place}
use Rattle.hive_model.specs.declared.places.Dir.{Dir}
use Rattle.hive_model.specs.declared.places.Dir.TheVariants.{E, NE, NW, W, SW, SE}
use Rattle.hive_model.specs.Lists.{IsOn, IsPath}
use Rattle.hive_model.specs.Places.{step, is_place, AreNeighbours}
use Rattle.hive_model.specs.Boards.{Stacks, IsBoard, is_occupied, stack_at, top_at}
use Rattle.hive_model.specs.Hive.{StepOn, OneHiveOn, except}
use Rattle.hive_model.proofs.PlaceLemmas.{is_other_place, false_place, cases_place}
use Rattle.hive_model.proofs.LegalLaws.{neighbour_back}
use Rattle.hive_model.proofs.ReachLaws.{step_moves}
use Rattle.one_hive.specs.Marks.{flags}
use Rattle.one_hive.specs.Visits.{IsSet}
use Rattle.one_hive.specs.Walks.{AreMarked, Joined}
use Rattle.one_hive.proofs.Flags.{bit_of, flag_of, either_flag}
use Rattle.one_hive.proofs.Marking.{top_there, there_top, on_by_mark, mark_by_on}
use Rattle.one_hive.proofs.Walking.{joined_then, joined_step, joined_back, hive_from, from_hive}

-- All marks of one number in another

pub all_yes : (n m : ℕ) → nat_eq (bit_or n m) n ≡ true → (x : ℕ) → IsSet (flags m) x → IsSet (flags n) x
all_yes n m e x h = subst (λ k. IsSet (flags k) x) (eqb-true (bit_or n m) n e) ((either_flag n m x).1 (inr h))

pub all_no : (n m : ℕ) → m < 2 ^ 28 → ((x : ℕ) → IsSet (flags m) x → IsSet (flags n) x) → nat_eq (bit_or n m) n ≡ true
all_no n m low all = eq-eqb (bit_or n m) n (same_from_bits (bit_or n m) n same)
  where
    same : (j : ℕ) → bit_at (bit_or n m) j ≡ bit_at n j
    same j =
        let both = bit_at_or n m j in
        let a = bit_at-lt n j in
        let b = bit_at-lt m j in
        elim (cases_eq (bit_at m j) 1) [
          | inl one ↦
              let small : j < 28 = elim (cases_lt j 28) [ inl is ↦ is | inr past ↦ (let off = bit_at_above m 28 j low past in absurd (omega (arith, off, one))) ] in
              let here = (bit_of n j (all j (flag_of m j small one))).1 in
              omega (arith, both, one, here)
          | inr other ↦ omega (arith, both, a, b, other)
        ]

-- A hive without a place

pub other_in : (o : Place → Bool) (q p : Place) → p ≢ q → IsTrue (o p) → IsTrue (except o q p)
other_in o q p apart there = and_from (not (is_place q p)) (o p) (not_from_false _ (is_other_place q p (λ e. apart (sym e)))) there

other_out : (o : Place → Bool) (q p : Place) → IsTrue (except o q p) → (p ≢ q) × IsTrue (o p)
other_out o q p h = let both = and_parts (not (is_place q p)) (o p) h in (λ e. false_place q p (not-true _ both.0) (sym e), both.1)

module _ (o : Place → Bool) (q : Place) where
  -- a walk to the place comes to one of its neighbours before
  to_beside : (a : Place) (ps : List Place) → IsPath (StepOn o) a ps q → a ≢ q → IsTrue (o a) → (d : Dir) × IsTrue (o (step q d)) × Joined (except o q) a (step q d)
  to_beside a [] h apart on = absurd (apart h)
  to_beside a (p ∷ ps) h apart on = elim (cases_place p q) [
    | inl same ↦
        let back = neighbour_back a q (subst (AreNeighbours a) same h.0.0) in
        (back.0, subst (λ z. IsTrue (o z)) (sym back.1) on, ([], sym back.1))
    | inr other ↦
        let r = to_beside p ps h.1 other h.0.1 in
        (r.0, r.1, joined_then (except o q) a p (step q r.0) (joined_step (except o q) a p (h.0.0, other_in o q p other h.0.1)) r.2)
  ]

  -- where walks lead from one place to all its neighbours, the rest is one hive
  pub held : OneHiveOn o → IsTrue (o q) → (s : Place) → IsTrue (except o q s) → ((d : Dir) → IsTrue (o (step q d)) → Joined (except o q) s (step q d)) → OneHiveOn (except o q)
  held one on_q s on all = hive_from (except o q) s on (λ p there.
      let out = other_out o q p there in
      let w = one p q out.1 on_q in
      let r = to_beside p w.0 w.1.1 out.0 out.1 in
      joined_then (except o q) s (step q r.0) p (all r.0 r.1) (joined_back (except o q) p r.2.0 (step q r.0) there r.2.1))

module _ (b : Stacks) (is : IsBoard b) (q s : Place) (on : IsTrue (except (is_occupied b) q s)) (wanted : List Bool)
    (beside : (x : ℕ) → IsSet wanted x ↔ ((d : Dir) × (top_at b (step q d) ≡ Some x)))
    (places : List Place) (tops : List Bool) (are : AreMarked b places tops) (met : (p : Place) → IsOn places p → Joined (except (is_occupied b) q) s p) where
  pub round_yes : OneHiveOn (is_occupied b) → IsTrue (is_occupied b q) → ((x : ℕ) → IsSet wanted x → IsSet tops x) → OneHiveOn (except (is_occupied b) q)
  round_yes one on_q all = held (is_occupied b) q one on_q s on (λ d there.
      let top = top_there (stack_at b (step q d)) there in
      met (step q d) (on_by_mark b is places tops are (step q d) top.0 top.1 (all top.0 ((beside top.0).1 (d, top.1)))))

  pub round_no : ((x : ℕ) → IsSet wanted x → IsSet tops x) ⊎ ((p : Place) → Joined (except (is_occupied b) q) s p → IsOn places p)
      → OneHiveOn (except (is_occupied b) q) → (x : ℕ) → IsSet wanted x → IsSet tops x
  round_no (inl all) one = all
  round_no (inr full) one = λ x h.
      let r = (beside x).0 h in
      let there = there_top (stack_at b (step q r.0)) x r.1 in
      let out = other_in (is_occupied b) q (step q r.0) (step_moves q r.0) there in
      mark_by_on b is places tops are (step q r.0) x r.1 (full (step q r.0) (from_hive (except (is_occupied b) q) s on one (step q r.0) out))

-- Marks given one direction after another

module _ (b : Stacks) (q : Place) where
  abbrev pub Tops : List Dir → List Bool → Type 0
  Tops ds marks = (x : ℕ) → IsSet marks x ↔ ((d : Dir) × IsOn ds d × (top_at b (step q d) ≡ Some x))

  pub tops_none : (marks : List Bool) → ((x : ℕ) → IsSet marks x → ⊥) → Tops [] marks
  tops_none marks none x = (λ h. absurd (none x h), λ r. absurd r.1)

  pub tops_more : (ds : List Dir) (d : Dir) (r : Place) (old new : List Bool) → r ≡ step q d → Tops ds old
      → ((x : ℕ) → IsSet new x ↔ ((top_at b r ≡ Some x) ⊎ IsSet old x)) → Tops (d ∷ ds) new
  tops_more ds d r old new at was law x = (
    λ h. elim ((law x).0 h) [
      | inl top ↦ (d, inl refl, ap (top_at b) (sym at) ∙ top)
      | inr before ↦ let e = (was x).0 before in (e.0, inr e.1, e.2)
    ],
    λ e. elim e.1 [
      | inl same ↦ (law x).1 (inl (ap (top_at b) (at ∙ ap (step q) same) ∙ e.2))
      | inr later ↦ (law x).1 (inr ((was x).1 (e.0, later, e.2)))
    ],
  )

  pub tops_all : (ds : List Dir) (marks : List Bool) → ((d : Dir) → IsOn ds d) → Tops ds marks → (x : ℕ) → IsSet marks x ↔ ((d : Dir) × (top_at b (step q d) ≡ Some x))
  tops_all ds marks all tops x = (λ h. let e = (tops x).0 h in (e.0, e.2), λ e. (tops x).1 (e.0, all e.0, e.1))

pub every_dir : (d : Dir) → IsOn (SE ∷ SW ∷ W ∷ NW ∷ NE ∷ E ∷ []) d
every_dir E = inr (inr (inr (inr (inr (inl refl)))))
every_dir NE = inr (inr (inr (inr (inl refl))))
every_dir NW = inr (inr (inr (inl refl)))
every_dir W = inr (inr (inl refl))
every_dir SW = inr (inl refl)
every_dir SE = inl refl

-- a place is separating where the rest is not one hive
pub parted : (o : Place → Bool) (q : Place) (t : Bool) → IsTrue (o q) → (IsTrue t ↔ OneHiveOn (except o q)) → IsTrue (not t) ↔ (IsTrue (o q) × (¬ OneHiveOn (except o q)))
parted o q true on law = (λ h. let wrong : false ≡ true = h in absurd (cc), λ s. absurd (s.1 (law.0 refl)))
parted o q false on law = (λ _. (on, λ one. let wrong : false ≡ true = law.1 one in cc), λ _. refl)
