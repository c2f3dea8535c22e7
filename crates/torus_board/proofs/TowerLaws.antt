-- What a tower tells of its board, and what putting and lifting a piece make of the towers.
use Rattle.std.proofs.Common.{◌≡◌, ◌≢◌, ℕ, zero, suc, ◌+◌, ◌*◌, ◌<◌, Bool, true, false, cond, List, [], ◌∷◌, ◌++◌, length, ◌⊎◌, inl, inr, refl, sym, ◌∙◌, ap, subst, arith, slice_set}
use Rattle.std.specs.Prelude.{Option, Some, None, replicate, nat_lt, slice_get, IsTrue}
use Rattle.std.proofs.lemmas.Bool.{cases_eq}
use Rattle.std.proofs.lemmas.Option.{none-some, same_Some}
use Rattle.std.proofs.Math.ListN.{length-set}
use Rattle.hive_model.specs.declared.places.Place.{Place}
use Rattle.hive_model.specs.Places.{IsWithin, origin}
use Rattle.hive_model.specs.Boards.{Stacks, stack_at, height_at, top_of, top_at, is_occupied, spot_of, under_of, put, lift, StandsAt, IsBoard}
use Rattle.hive_model.proofs.PlaceLemmas.{cases_place, is_other_place}
use Rattle.hive_model.proofs.GetLemmas.{get-set_same, get-set_other}
use Rattle.hive_model.proofs.BoardLemmas.{stack_at-put, stands_occupied}
use Rattle.hive_model.proofs.CopyLaws.{not_occupied}
use Rattle.hive_model.proofs.LiftLemmas as lifts
use Rattle.hive_model.specs.Spread.{IsNearAll, IsSpread}
use Rattle.torus_board.specs.Residues.{cell_of}
use Rattle.torus_board.proofs.Cells.{cell_once, cell_within}
use Rattle.torus_board.specs.declared.towers.Tower.{Tower}
use Rattle.torus_board.specs.Grid.{HasTowers, tower_at}
use Rattle.torus_board.proofs.Links.{put_height, put_top_here, put_top_there}

either : (t : Bool) → (t ≡ true) ⊎ (t ≡ false)
either true = inl refl
either false = inr refl

abbrev pub tower_of : Place → ℕ → Option ℕ → Tower
tower_of p h x = record { place = p; height = h; top = x }

-- a tower is its place, its height and its top piece
pub same_tower : (p : Place) (h k : ℕ) (x y : Option ℕ) → h ≡ k → x ≡ y → tower_of p h x ≡ tower_of p k y
same_tower p h k x y tall top = ap (λ z. tower_of p z x) tall ∙ ap (tower_of p k) top

no_top : (xs : List ℕ) → length xs ≡ 0 → None ≡ top_of xs
no_top [] e = refl
no_top (x ∷ xs) e = absurd (omega (arith, e))

module _ (n : ℕ) (b : Stacks) (towers : List Tower) (has : HasTowers n b towers) (p : Place) (i : ℕ) (at_i : i ≡ cell_of n p) (t : Tower) (at : slice_get towers i ≡ Some t) where
  cell_has : slice_get towers (cell_of n p) ≡ Some t
  cell_has = ap (slice_get towers) (sym at_i) ∙ at

  -- the tower was written for the place that is asked
  pub its_tower : t.place ≡ p → t ≡ tower_at b p
  its_tower here = has.own p t cell_has here

  -- it was written for another place
  pub no_tower_there : t.place ≢ p → tower_of p 0 None ≡ tower_at b p
  no_tower_there away = elim (either (is_occupied b p)) [
    | inl on ↦ absurd (away (ap (λ (u : Tower). u.place) (same_Some _ _ (sym cell_has ∙ has.here p on))))
    | inr off ↦
        let flat = not_occupied b p off in
        same_tower p 0 (height_at b p) None (top_at b p) (sym flat) (no_top (stack_at b p) flat)
  ]

-- The towers once that of one place was written, where those of the others stay as they were

module _ (n : ℕ) (some : 0 < n) (b c : Stacks) (p : Place) (near : IsNearAll n b p) (others : (q : Place) → q ≢ p → tower_at b q ≡ tower_at c q) (towers : List Tower) (has : HasTowers n b towers) (t : Tower) (t_is : t ≡ tower_at c p) where
  abbrev changed : List Tower
  changed = slice_set towers (cell_of n p) t

  written_here : slice_get changed (cell_of n p) ≡ Some t
  written_here = get-set_same towers (cell_of n p) t (subst (λ m. cell_of n p < m) (sym has.many) (cell_within n p some))

  was_occupied : (q : Place) → q ≢ p → IsTrue (is_occupied c q) → IsTrue (is_occupied b q)
  was_occupied q other on = ap (λ (u : Tower). nat_lt 0 u.height) (others q other) ∙ on

  pub tower_written : HasTowers n c changed
  tower_written = record {
    many = length-set towers (cell_of n p) t ∙ has.many;
    here = λ q on. elim (cases_place q p) [
      | inl same ↦ ap (λ r. slice_get changed (cell_of n r)) same ∙ written_here ∙ ap Some (t_is ∙ ap (tower_at c) (sym same))
      | inr other ↦
          let old = was_occupied q other on in
          get-set_other towers (cell_of n p) (cell_of n q) t (λ e. other (sym (cell_once n p q some (near q old) (sym e))))
          ∙ has.here q old
          ∙ ap Some (others q other)
    ];
    own = λ q u at is. elim (cases_eq (cell_of n q) (cell_of n p)) [
      | inl same ↦
          let u_is : u ≡ t = same_Some _ _ (sym at ∙ ap (slice_get changed) same ∙ written_here) in
          let q_is : q ≡ p = sym is ∙ ap (λ (v : Tower). v.place) (u_is ∙ t_is) in
          u_is ∙ t_is ∙ ap (tower_at c) (sym q_is)
      | inr other ↦
          has.own q u (sym (get-set_other towers (cell_of n p) (cell_of n q) t other) ∙ at) is
          ∙ others q (λ e. other (ap (cell_of n) e))
    ];
  }

pub height_apart : (b : Stacks) (x : ℕ) (p q : Place) → q ≢ p → height_at (put b x p) q ≡ height_at b q
height_apart b x p q other = ap length (stack_at-put b x p q ∙ ap (λ t. cond t (stack_at b p ++ x ∷ []) (stack_at b q)) (is_other_place q p other))

module _ (n : ℕ) (some : 0 < n) (b : Stacks) (is : IsBoard b) (x : ℕ) (p : Place) (small : x < 28) (inside : IsWithin 9000 p) (absent : spot_of b x ≡ None) (near : IsNearAll n b p) where
  pub towers_put : (towers : List Tower) → HasTowers n b towers → HasTowers n (put b x p) (slice_set towers (cell_of n p) (tower_of p (height_at b p + 1) (Some x)))
  towers_put towers has =
      tower_written n some b (put b x p) p near others towers has _
      (same_tower p _ _ _ _ (sym (put_height b x p is small inside absent)) (sym (put_top_here b x p is small inside absent)))
    where
      others : (q : Place) → q ≢ p → tower_at b q ≡ tower_at (put b x p) q
      others q other = same_tower q _ _ _ _ (sym (height_apart b x p q other)) (sym (put_top_there b x p is small inside absent q other))

module _ (n : ℕ) (some : 0 < n) (b : Stacks) (is : IsBoard b) (spread : IsSpread n b) (x : ℕ) (p : Place) (level : ℕ) (stands : StandsAt b x p level) (top : height_at b p ≡ level + 1) where
  pub towers_lift : (towers : List Tower) → HasTowers n b towers → HasTowers n (lift b x) (slice_set towers (cell_of n p) (tower_of p level (under_of b x)))
  towers_lift towers has =
      tower_written n some b (lift b x) p (spread p (stands_occupied b x p level stands)) others towers has _
      (same_tower p _ _ _ _ (sym (lifts.height_here b is x p level stands top)) (sym (lifts.top_here b is x p level stands top)))
    where
      others : (q : Place) → q ≢ p → tower_at b q ≡ tower_at (lift b x) q
      others q other =
          let apart = is_other_place q p other in
          same_tower q _ _ _ _ (sym (lifts.height_there b is x p level stands top q apart)) (sym (lifts.top_there b is x p level stands top q apart))

-- The empty board

abbrev no_tower : Tower
no_tower = tower_of origin 0 None

all_flat : (k i : ℕ) (t : Tower) → slice_get (replicate k no_tower) i ≡ Some t → t ≡ no_tower
all_flat zero i t h = absurd (none-some _ h)
all_flat (suc k) zero t h = sym (same_Some _ _ h)
all_flat (suc k) (suc i) t h = all_flat k i t h

many_flat : (k : ℕ) → length (replicate k no_tower) ≡ k
many_flat zero = refl
many_flat (suc k) = ap suc (many_flat k)

pub empty_towers : (n : ℕ) (towers : List Tower) → towers ≡ replicate (n * n) no_tower → HasTowers n [] towers
empty_towers n towers flat = record {
  many = ap length flat ∙ many_flat (n * n);
  here = λ p on. absurd (let wrong : false ≡ true = on in cc);
  own = λ p t at is.
      let bare : t ≡ no_tower = all_flat (n * n) (cell_of n p) t (ap (λ (l : List Tower). slice_get l (cell_of n p)) (sym flat) ∙ at) in
      let p_is : p ≡ origin = sym is ∙ ap (λ (u : Tower). u.place) bare in
      bare ∙ ap (tower_at []) (sym p_is);
}
