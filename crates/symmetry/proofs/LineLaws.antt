-- Positions that are alike have as many lists of legal moves.
use Rattle.std.proofs.Common.{◌≡◌, ℕ, zero, suc, ◌+◌, ◌≤◌, ◌<◌, List, [], ◌∷◌, ◌++◌, inl, inr, refl, sym, ◌∙◌, ap, subst, arith}
use Rattle.std.specs.List.{sum_by}
use Rattle.std.proofs.lemmas.List.Sums.{sum_by-cons, sum_by-append}
use Rattle.hive_model.specs.declared.places.Place.{Place}
use Rattle.hive_model.specs.declared.places.Move.{Move}
use Rattle.hive_model.specs.Lists.{IsOn}
use Rattle.hive_model.specs.Boards.{IsBoard, StandsWithin}
use Rattle.hive_model.specs.Positions.{Position}
use Rattle.hive_model.specs.Legal.{moves}
use Rattle.hive_model.specs.Games.{after}
use Rattle.hive_model.specs.Minimax.{lines}
use Rattle.hive_model.proofs.Floods.{on_append, append_left, append_right}
use Rattle.hive_model.proofs.CountLaws.{AreDistinct, rising_distinct}
use Rattle.hive_model.proofs.MoveLaws.{moves_total, moves_rise}
use Rattle.symmetry.specs.Alike.{Alike, move_by}
use Rattle.symmetry.specs.Takes.{TakesMove}
use Rattle.symmetry.proofs.KeptBoards.{board_after}
use Rattle.symmetry.proofs.AlikeLaws.{listed_alike, after_alike, moves_apart, moves_images}

-- Sums over the images of items

split_at_item : {X : Type 0} (ys : List X) (x : X) → IsOn ys x → (left : List X) × (right : List X) × (ys ≡ left ++ x ∷ right)
split_at_item [] x on = absurd on
split_at_item (y ∷ ys) x on = elim on [
  | inl same ↦ ([], ys, (λ i. same i ∷ ys))
  | inr later ↦ let r = split_at_item ys x later in (y ∷ r.0, r.1, ap (λ zs. y ∷ zs) r.2)
]

-- distinct items whose images, no two of them equal, stand on another list and count as much there
-- count no more than it
sum_short : {X : Type 0} (f g : X → ℕ) (h : X → X) → ((x y : X) → h x ≡ h y → x ≡ y) → (xs ys : List X) → AreDistinct xs
    → ((x : X) → IsOn xs x → IsOn ys (h x) × (f x ≡ g (h x))) → sum_by f xs ≤ sum_by g ys
sum_short f g h apart [] ys d there = omega arith
sum_short {X} f g h apart (x ∷ xs) ys d there =
    let first = there x (inl refl) in
    let (left, right, is) = split_at_item ys (h x) first.0 in
    let others : (z : X) → IsOn xs z → IsOn (left ++ right) (h z) × (f z ≡ g (h z)) = λ z on.
    let here = there z (inr on) in (
      elim (on_append left (h x ∷ right) (h z) (subst (λ zs. IsOn zs (h z)) is here.0)) [
        | inl before ↦ append_left left right (h z) before
        | inr more ↦ elim more [
          | inl same ↦ absurd (d.0 (subst (IsOn xs) (sym (apart x z same)) on))
          | inr behind ↦ append_right left right (h z) behind
        ]
      ],
      here.1,
    ) in
    let rest = sum_short f g h apart xs (left ++ right) d.1 others in
    let all = ap (sum_by g) is ∙ sum_by-append g left (h x ∷ right) in
    let some = sum_by-append g left right in
    let mine = sum_by-cons f x xs in
    let image = sum_by-cons g (h x) right in
    omega (arith, rest, all, some, first.1, mine, image)

-- Lists of legal moves

module _ (p r : Position) (s : ℕ) (t : Place) (is : IsBoard p.board) (js : IsBoard r.board) (a : Alike p r s t) where
  -- moves that count as much as their images have the same sum as all images
  pub sums_alike : (f g : Move → ℕ) → ((m : Move) → IsOn (moves p) m → f m ≡ g (move_by s t m)) → sum_by f (moves p) ≡ sum_by g (moves r)
  sums_alike f g same =
      let back : Move → Move = λ n. (moves_images s t n).0 in
      let again : (n : Move) → move_by s t (back n) ≡ n = λ n. (moves_images s t n).1 in
      let there = sum_short f g (move_by s t) (moves_apart s t) (moves p) (moves r) (rising_distinct moves_total (moves p) (moves_rise p))
      (λ m on. ((listed_alike p r s t is js a m).0 on, same m on)) in
      let here = sum_short g f back (λ n o e. sym (again n) ∙ ap (move_by s t) e ∙ again o) (moves r) (moves p) (rising_distinct moves_total (moves r) (moves_rise r))
      (λ n on.
      let was = (listed_alike p r s t is js a (back n)).1 (subst (IsOn (moves r)) (sym (again n)) on) in
      (was, ap g (sym (again n)) ∙ sym (same (back n) was))) in
      omega (arith, there, here)

pub lines_alike : (n : ℕ) (p r : Position) (s : ℕ) (t : Place) (k : ℕ) → IsBoard p.board → IsBoard r.board → Alike p r s t
    → StandsWithin k p.board → StandsWithin k r.board → k + n ≤ 9000 → lines p n ≡ lines r n
unfolding lines
lines_alike zero p r s t k is js a w v low = refl
lines_alike (suc n) p r s t k is js a w v low = sums_alike p r s t is js a (λ m. lines (after p m) n) (λ m. lines (after r m) n) (λ m on.
    let less : k < 9000 = omega (arith, low) in
    let left = board_after p k m is w less on in
    let there = board_after r k (move_by s t m) js v less ((listed_alike p r s t is js a m).0 on) in
    lines_alike n (after p m) (after r (move_by s t m)) s t (k + 1) left.0 there.0 (after_alike p r s t is js a m) left.1 there.1 (omega (arith, low)))

pub lines_taken : (p : Position) (m : Move) (r : Position) (o : Move) → IsBoard p.board → IsBoard r.board → TakesMove p m r o → IsOn (moves p) m
    → (k n : ℕ) → StandsWithin k p.board → StandsWithin k r.board → k + n < 9000 → lines (after p m) n ≡ lines (after r o) n
lines_taken p m r o is js h on k n w v low =
    let s = h.symmetry in
    let t = h.shift in
    let less : k < 9000 = omega (arith, low) in
    let left = board_after p k m is w less on in
    let there = board_after r k (move_by s t m) js v less ((listed_alike p r s t is js h.alike m).0 on) in
    lines_alike n (after p m) (after r (move_by s t m)) s t (k + 1) left.0 there.0 (after_alike p r s t is js h.alike m) left.1 there.1 (omega (arith, low))
    ∙ ap (λ z. lines (after r z) n) h.takes
