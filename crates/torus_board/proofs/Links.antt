-- What putting and lifting a piece make of a place, of the links downward and of what is occupied.
use Rattle.std.proofs.Common.{◌≡◌, ◌≢◌, ℕ, ◌+◌, ◌-◌, ◌<◌, true, false, cond, List, [], ◌∷◌, ◌++◌, length, ◌⊎◌, inl, inr, sym, ◌∙◌, ap, subst, arith, slice_set, length-append}
use Rattle.std.specs.Prelude.{Option, Some, None, slice_get, IsTrue}
use Rattle.std.proofs.lemmas.Bool.{cases_eq}
use Rattle.std.proofs.Math.ListN.{length-set}
use Rattle.std.proofs.lemmas.Int.{ints}
use Rattle.std.proofs.lemmas.Option.{none-some}
use Rattle.hive_model.specs.declared.places.Place.{Place}
use Rattle.hive_model.specs.Places.{IsWithin}
use Rattle.hive_model.specs.Boards.{Stacks, stack_at, height_at, top_at, is_occupied, spot_of, under_of, put, lift, StandsAt, IsBoard}
use Rattle.hive_model.proofs.PlaceLemmas.{is_place_itself, is_other_place}
use Rattle.hive_model.proofs.GetLemmas.{get-set_same, get-set_other}
use Rattle.hive_model.proofs.BoardLemmas.{stack_at-put, stands_spot_of, stands_occupied, stands_on_top, put_stands, occupied_stands, lift_stands}
use Rattle.hive_model.proofs.KeepLaws.{board_put}
use Rattle.hive_model.proofs.BackLaws.{lift_put}
use Rattle.hive_model.proofs.LiftLemmas as lifts
use Rattle.hive_model.specs.Spread.{AreNear, IsNearAll, IsSpread}
use Rattle.torus_board.specs.Grid.{IsLinked}

swapped : (n : ℕ) (p q : Place) → AreNear n p q → AreNear n q p
swapped n p q h = record { q_up = h.q_down; q_down = h.q_up; r_up = h.r_down; r_down = h.r_up }

-- A piece that is put on top of a place comes off again

module _ (b : Stacks) (x : ℕ) (p : Place) (is : IsBoard b) (small : x < 28) (inside : IsWithin 9000 p) (absent : spot_of b x ≡ None) where
  gone : (r : Place) (i : ℕ) → StandsAt b x r i → ⊥
  gone r i h = none-some _ (sym absent ∙ stands_spot_of b is x r i h)

  pub put_board : IsBoard (put b x p)
  put_board = board_put b x p is small inside gone

  put_stack : stack_at (put b x p) p ≡ stack_at b p ++ x ∷ []
  put_stack = stack_at-put b x p p ∙ ap (λ t. cond t (stack_at b p ++ x ∷ []) (stack_at b p)) (is_place_itself p)

  pub put_height : height_at (put b x p) p ≡ height_at b p + 1
  put_height = ap length put_stack ∙ length-append (stack_at b p) (x ∷ [])

  put_lifted : lift (put b x p) x ≡ b
  put_lifted = lift_put b x p is small inside gone

  pub put_top_here : top_at (put b x p) p ≡ Some x
  put_top_here =
      let one : height_at (put b x p) p - 1 ≡ height_at b p = (let h = put_height in omega (arith, h)) in
      ap (slice_get (stack_at (put b x p) p)) one ∙ stands_on_top b x p

  pub put_top_there : (q : Place) → q ≢ p → top_at (put b x p) q ≡ top_at b q
  put_top_there q other =
      sym (lifts.top_there (put b x p) put_board x p (height_at b p) (stands_on_top b x p) put_height q (is_other_place q p other)) ∙ ap (λ c. top_at c q) put_lifted

  pub put_under_here : under_of (put b x p) x ≡ top_at b p
  put_under_here = sym (lifts.top_here (put b x p) put_board x p (height_at b p) (stands_on_top b x p) put_height) ∙ ap (λ c. top_at c p) put_lifted

  pub put_under_there : (y : ℕ) → y ≢ x → under_of (put b x p) y ≡ under_of b y
  put_under_there y other =
      sym (lifts.under_kept (put b x p) put_board x p (height_at b p) (stands_on_top b x p) put_height y other) ∙ ap (λ c. under_of c y) put_lifted

near_itself : (n : ℕ) (p : Place) → 0 < n → AreNear n p p
near_itself n p some = record { q_up = omega (arith, ints, some); q_down = omega (arith, ints, some); r_up = omega (arith, ints, some); r_down = omega (arith, ints, some) }

-- What `put` makes of the links and occupied places

module _ (n : ℕ) (some : 0 < n) (b : Stacks) (is : IsBoard b) (x : ℕ) (p : Place) (small : x < 28) (inside : IsWithin 9000 p) (absent : spot_of b x ≡ None) (near : IsNearAll n b p) where
  pub linked_put : (below : List (Option ℕ)) → IsLinked b below → IsLinked (put b x p) (slice_set below x (top_at b p))
  linked_put below linked = record {
    many = length-set below x _ ∙ linked.many;
    links = λ y low. elim (cases_eq y x) [
      | inl same ↦
          ap (slice_get (slice_set below x (top_at b p))) same
          ∙ get-set_same below x (top_at b p) (subst (λ m. x < m) (sym linked.many) small)
          ∙ ap Some (sym (put_under_here b x p is small inside absent) ∙ ap (under_of (put b x p)) (sym same))
      | inr other ↦ get-set_other below x y (top_at b p) other ∙ linked.links y low ∙ ap Some (sym (put_under_there b x p is small inside absent y other))
    ];
  }

  put_occupied : (q : Place) → IsTrue (is_occupied (put b x p) q) → IsTrue (is_occupied b q) ⊎ (q ≡ p)
  put_occupied q h =
      let first = occupied_stands (put b x p) q h in
      elim (put_stands b x p first.0 q 0 first.1) [ inl old ↦ inl (stands_occupied b first.0 q 0 old) | inr (e, f, g) ↦ inr f ]

  pub spread_put : IsSpread n b → IsSpread n (put b x p)
  spread_put spread q on_q r on_r = elim (put_occupied q on_q) [
    | inl old ↦ elim (put_occupied r on_r) [
      | inl also ↦ spread q old r also
      | inr there ↦ subst (AreNear n q) (sym there) (swapped n p q (near q old))
    ]
    | inr here ↦ subst (λ z. AreNear n z r) (sym here) (elim (put_occupied r on_r) [ inl also ↦ near r also | inr there ↦ subst (AreNear n p) (sym there) (near_itself n p some) ])
  ]

-- What `lift` makes of the links and occupied places

module _ (n : ℕ) (some : 0 < n) (b : Stacks) (is : IsBoard b) (spread : IsSpread n b) (x : ℕ) (p : Place) (level : ℕ) (stands : StandsAt b x p level) (top : height_at b p ≡ level + 1) where
  pub linked_lift : (below : List (Option ℕ)) → x < 28 → IsLinked b below → IsLinked (lift b x) (slice_set below x None)
  linked_lift below small linked = record {
    many = length-set below x _ ∙ linked.many;
    links = λ y low. elim (cases_eq y x) [
      | inl same ↦
          ap (slice_get (slice_set below x None)) same
          ∙ get-set_same below x None (subst (λ m. x < m) (sym linked.many) small)
          ∙ ap Some (sym (lifts.under_gone b is x p level stands top) ∙ ap (under_of (lift b x)) (sym same))
      | inr other ↦ get-set_other below x y None other ∙ linked.links y low ∙ ap Some (sym (lifts.under_kept b is x p level stands top y other))
    ];
  }

  lift_occupied : (q : Place) → IsTrue (is_occupied (lift b x) q) → IsTrue (is_occupied b q)
  lift_occupied q h =
      let first = occupied_stands (lift b x) q h in
      stands_occupied b first.0 q 0 (lift_stands b is x p level stands top first.0 q 0 first.1).0

  pub spread_lift : IsSpread n (lift b x)
  spread_lift q on_q r on_r = spread q (lift_occupied q on_q) r (lift_occupied r on_r)

-- The empty board

pub empty_spread : (n : ℕ) → IsSpread n []
empty_spread n p on = let wrong : false ≡ true = on in absurd (cc)
