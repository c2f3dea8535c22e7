-- What a piece that goes leaves on the board: the others keep their spots, in one hive.
use Rattle.std.proofs.Common.{◌≡◌, ◌≢◌, ℕ, suc, zero, ◌+◌, ◌<◌, true, false, List, [], ◌∷◌, take, refl, sym, ◌∙◌, ap, subst, arith}
use Rattle.std.specs.Prelude.{Some, None, nat_lt}
use Rattle.std.proofs.lemmas.Bool.{lt-ltb}
use Rattle.hive_model.specs.declared.places.Place.{Place}
use Rattle.hive_model.specs.declared.places.Spot.{Spot}
use Rattle.hive_model.specs.Places.{is_place}
use Rattle.hive_model.specs.Boards.{Stacks, stack_at, height_at, is_occupied, spot_of, cleared, set_stack, lift, without, without_at, StandsAt, IsBoard}
use Rattle.hive_model.specs.Hive.{OneHive, OneHiveOn, IsCut, is_one}
use Rattle.hive_model.proofs.PlaceLemmas.{same_place}
use Rattle.hive_model.proofs.BoardLemmas.{spot_of_stands, stands_spot_of, lift_is, lift_stands, stands_lift, stacks-set_stack}
use Rattle.hive_model.proofs.LiftLemmas.{lift_is_board, lift_is_without, height_here, height_there}
use Rattle.hive_model.proofs.NearLaws.{one_hive_from}
use Rattle.hive_model.proofs.CutLaws.{separates_from}

-- the board c is the board b without the piece x, and one hive
pub record Leaves (b c : Stacks) (x : ℕ) : Type 0 where
  pub board : IsBoard c
  pub stood : (y : ℕ) (q : Place) (i : ℕ) → StandsAt c y q i → StandsAt b y q i
  pub stays : (y : ℕ) (q : Place) (i : ℕ) → StandsAt b y q i → y ≢ x → StandsAt c y q i
  pub gone : (q : Place) (i : ℕ) → ¬ StandsAt c x q i
  pub one_hive : OneHive c

-- a piece that is in hand leaves the board as it is
pub leaves_hand : (b : Stacks) (x : ℕ) → IsBoard b → OneHive b → spot_of b x ≡ None → Leaves b (without b x) x
leaves_hand b x is one off = subst (λ c. Leaves b c x) (sym (ap (without_at b) off)) (record {
  board = is;
  stood = λ y q i h. h;
  stays = λ y q i h other. h;
  gone = λ q i h. let wrong : None ≡ Some (record { place = q; level = i }) = sym off ∙ stands_spot_of b is x q i h in cc;
  one_hive = one;
})

take_none : (xs : List ℕ) → take 0 xs ≡ []
take_none [] = refl
take_none (x ∷ xs) = refl

-- a place that is no cut place leaves one hive when it is cleared
cleared_one : (b : Stacks) → IsBoard b → (p : Place) → height_at b p ≡ 1 → (¬ IsCut b p) → OneHive (cleared b p)
cleared_one b is p alone not_cut = elim (is_one (cleared b p)) as (λ t. is_one (cleared b p) ≡ t → OneHive (cleared b p)) [
  | true ↦ λ e. one_hive_from (cleared b p) (stacks-set_stack b p [] is.stacks) e
  | false ↦ λ e.
      let high : 0 < height_at b p = omega (arith, alone) in
      absurd (not_cut (record { alone = alone; separates = (lt-ltb _ _ high, separates_from b is p e) }))
] refl

module _ (b : Stacks) (is : IsBoard b) (x : ℕ) (p : Place) (level : ℕ) (stands : StandsAt b x p level) (top : height_at b p ≡ level + 1) where
  -- above the ground the occupied places are the same
  same_occupied : 0 < level → (q : Place) → is_occupied b q ≡ is_occupied (lift b x) q
  same_occupied high q = elim (is_place q p) as (λ t. is_place q p ≡ t → is_occupied b q ≡ is_occupied (lift b x) q) [
    | true ↦ λ e.
        let some : 0 < height_at b p = omega (arith, top) in
        let left : 0 < height_at (lift b x) p = subst (λ n. 0 < n) (sym (height_here b is x p level stands top)) high in
        ap (is_occupied b) (same_place q p e) ∙ lt-ltb _ _ some ∙ sym (lt-ltb _ _ left) ∙ ap (is_occupied (lift b x)) (sym (same_place q p e))
    | false ↦ λ e. ap (nat_lt 0) (sym (height_there b is x p level stands top q e))
  ] refl

  lifted_one : OneHive b → (¬ IsCut b p) → (n : ℕ) → level ≡ n → OneHive (lift b x)
  lifted_one one not_cut zero e =
      let alone : height_at b p ≡ 1 = omega (arith, top, e) in
      let same : lift b x ≡ cleared b p = lift_is b is x p level stands top ∙ ap (λ n. set_stack b p (take n (stack_at b p))) e ∙ ap (set_stack b p) (take_none (stack_at b p)) in
      subst OneHive (sym same) (cleared_one b is p alone not_cut)
  lifted_one one not_cut (suc n) e = let high : 0 < level = omega (arith, e) in subst OneHiveOn (λ i q. same_occupied high q i) one

  leaves_lifted : OneHive b → (¬ IsCut b p) → Leaves b (lift b x) x
  leaves_lifted one not_cut = record {
    board = lift_is_board b is x p level stands top;
    stood = λ y q i h. (lift_stands b is x p level stands top y q i h).0;
    stays = λ y q i h other. stands_lift b is x p level stands top y q i h other;
    gone = λ q i h. (lift_stands b is x p level stands top x q i h).1 refl;
    one_hive = lifted_one one not_cut level refl;
  }

-- `Leaves` holds of a top piece that is not on a cut place
pub leaves_top : (b : Stacks) (x : ℕ) (s : Spot) → IsBoard b → OneHive b → spot_of b x ≡ Some s → s.level + 1 ≡ height_at b s.place → (¬ IsCut b s.place) → Leaves b (without b x) x
leaves_top b x s is one e top not_cut =
    subst (λ c. Leaves b c x) (lift_is_without b x s e top) (leaves_lifted b is x s.place s.level (spot_of_stands b x s e) (sym top) one not_cut)

-- the same, for what is known of the lifted board
pub on_without : (b : Stacks) (x : ℕ) (s : Spot) (P : Stacks → Type 0) → spot_of b x ≡ Some s → s.level + 1 ≡ height_at b s.place → P (lift b x) → P (without b x)
on_without b x s P e top h = subst P (lift_is_without b x s e top) h
