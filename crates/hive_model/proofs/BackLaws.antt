-- A piece that is put and lifted again, or lifted and put back, leaves the board as it was.
use Rattle.std.proofs.Common.{◌≡◌, ℕ, suc, zero, ◌+◌, ◌<◌, true, false, cond, List, [], ◌∷◌, ◌++◌, length, take, refl, sym, ◌∙◌, ap, arith, length-append}
use Rattle.std.specs.Prelude.{Some, slice_get, IsTrue}
use Rattle.std.proofs.Math.Seq.{take-append_seam}
use Rattle.std.proofs.lemmas.Bool.{eq-eqb}
use Rattle.hive_model.specs.declared.places.Place.{Place}
use Rattle.hive_model.specs.Places.{is_place, IsWithin}
use Rattle.hive_model.specs.Boards.{Stacks, stack_at, height_at, spot_of, is_top_spot, is_on_top, put, lift, StandsAt, IsBoard}
use Rattle.hive_model.proofs.PlaceLemmas.{same_place, is_place_itself}
use Rattle.hive_model.proofs.BoardLemmas.{same_board, stack_at-put, stands_spot_of, stands_on_top, stack_left, lift_stands}
use Rattle.hive_model.proofs.LiftLemmas.{lift_is_board}
use Rattle.hive_model.proofs.KeepLaws.{board_put}

take_last : (xs : List ℕ) (i x : ℕ) → slice_get xs i ≡ Some x → suc i ≡ length xs → take i xs ++ x ∷ [] ≡ xs
take_last [] i x h e = absurd (omega (arith, e))
take_last (y ∷ []) zero x h e = let f : Some y ≡ Some x = h in let same : y ≡ x = cc in ap (λ (z : ℕ). z ∷ []) (sym same)
take_last (y ∷ z ∷ ys) zero x h e = absurd (omega (arith, e))
take_last (y ∷ ys) (suc i) x h e = ap (λ (zs : List ℕ). y ∷ zs) (take_last ys i x h (omega (arith, e)))

-- A piece that goes on top of a place, and comes off again

module _ (c : Stacks) (x : ℕ) (q : Place) (is : IsBoard c) (small : x < 28) (inside : IsWithin 9000 q) (gone : (r : Place) (i : ℕ) → StandsAt c x r i → ⊥) where
  put_is_board : IsBoard (put c x q)
  put_is_board = board_put c x q is small inside gone

  put_spot : spot_of (put c x q) x ≡ Some (record { place = q; level = height_at c q })
  put_spot = stands_spot_of (put c x q) put_is_board x q (height_at c q) (stands_on_top c x q)

  put_stack : stack_at (put c x q) q ≡ stack_at c q ++ x ∷ []
  put_stack = stack_at-put c x q q ∙ ap (λ t. cond t (stack_at c q ++ x ∷ []) (stack_at c q)) (is_place_itself q)

  put_height : height_at (put c x q) q ≡ height_at c q + 1
  put_height = ap length put_stack ∙ length-append (stack_at c q) (x ∷ [])

  pub put_on_top : IsTrue (is_on_top (put c x q) x)
  put_on_top = ap (is_top_spot (put c x q)) put_spot ∙ eq-eqb _ _ (sym put_height)

  pub lift_put : lift (put c x q) x ≡ c
  lift_put =
      let d = put c x q in
      let lifted = lift_is_board d put_is_board x q (height_at c q) (stands_on_top c x q) put_height in
      same_board (lift d x) c lifted.in_order is.in_order lifted.stacks is.stacks (λ r.
      stack_left d put_is_board x q (height_at c q) (stands_on_top c x q) put_height r
      ∙ elim (is_place r q) as (λ t. is_place r q ≡ t → cond t (take (height_at c q) (stack_at d q)) (stack_at d r) ≡ stack_at c r) [
        | true ↦ λ e. ap (take (height_at c q)) put_stack ∙ take-append_seam (stack_at c q) (x ∷ []) ∙ ap (stack_at c) (sym (same_place r q e))
        | false ↦ λ e. stack_at-put c x q r ∙ ap (λ t. cond t (stack_at c q ++ x ∷ []) (stack_at c r)) e
      ] refl)

-- A piece on top that is lifted and put back

module _ (b : Stacks) (is : IsBoard b) (x : ℕ) (p : Place) (level : ℕ) (stands : StandsAt b x p level) (top : height_at b p ≡ level + 1) where
  pub lifted_gone : (r : Place) (i : ℕ) → StandsAt (lift b x) x r i → ⊥
  lifted_gone r i h = (lift_stands b is x p level stands top x r i h).1 refl

  pub put_lift : x < 28 → IsWithin 9000 p → put (lift b x) x p ≡ b
  put_lift small inside =
      let c = lift b x in
      let lifted = lift_is_board b is x p level stands top in
      let back = board_put c x p lifted small inside lifted_gone in
      same_board (put c x p) b back.in_order is.in_order back.stacks is.stacks (λ r.
      stack_at-put c x p r
      ∙ elim (is_place r p) as (λ t. is_place r p ≡ t → cond t (stack_at c p ++ x ∷ []) (stack_at c r) ≡ stack_at b r) [
        | true ↦ λ e.
            let here : stack_at c p ≡ take level (stack_at b p) = stack_left b is x p level stands top p ∙ ap (λ t. cond t (take level (stack_at b p)) (stack_at b p)) (is_place_itself p) in
            let last : suc level ≡ length (stack_at b p) = omega (arith, top) in
            ap (λ (xs : List ℕ). xs ++ x ∷ []) here ∙ take_last (stack_at b p) level x stands last ∙ ap (stack_at b) (sym (same_place r p e))
        | false ↦ λ e. stack_left b is x p level stands top r ∙ ap (λ t. cond t (take level (stack_at b p)) (stack_at b r)) e
      ] refl)
