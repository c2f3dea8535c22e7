-- The symmetries of one position, found one after another, and what they say of its moves.
use Rattle.std.proofs.Common.{◌≡◌, ℕ, ◌+◌, ◌<◌, List, [], ◌∷◌, ◌++◌, inl, inr, refl, sym, ◌∙◌, ap, subst, arith}
use Rattle.std.specs.Prelude.{Some, None}
use Rattle.std.proofs.lemmas.Bool.{cases_eq}
use Rattle.hive_model.specs.declared.places.Move.{Move}
use Rattle.hive_model.specs.Lists.{IsOn}
use Rattle.hive_model.specs.Boards.{IsBoard, StandsWithin}
use Rattle.hive_model.specs.Positions.{Position}
use Rattle.hive_model.specs.Legal.{moves}
use Rattle.hive_model.specs.Games.{after}
use Rattle.hive_model.specs.Minimax.{lines}
use Rattle.hive_model.specs.Keys.{KeyParts, key}
use Rattle.hive_model.proofs.Floods.{on_append, append_left, append_right}
use Rattle.symmetry.specs.declared.own.OwnSymmetry.{OwnSymmetry}
use Rattle.symmetry.specs.Alike.{Alike, move_by}
use Rattle.symmetry.specs.Shifts.{IsShift}
use Rattle.symmetry.specs.Takes.{TakesMove}
use Rattle.symmetry.specs.Own.{IsListed, IsOwnBelow, AreOwnBelow, AreOwn}
use Rattle.symmetry.proofs.LineLaws.{lines_taken}

-- a position that is not alike to itself by the next symmetry
pub none_more : (n : ℕ) (k : KeyParts) (own : List OwnSymmetry) → AreOwnBelow n k own → IsShift None k k n → AreOwnBelow (n + 1) k own
none_more n k own are shift p is e s t = (
  λ l. let b = (are p is e s t).0 l in record { moves = b.moves; below = omega (arith, b.below); alike = b.alike },
  λ b. elim (cases_eq s n) [
    | inl same ↦ let wrong : None ≡ Some t = (shift p p is is e e t).1 (subst (λ z. Alike p p z t) same b.alike) in absurd (cc)
    | inr other ↦ (are p is e s t).1 (record { moves = b.moves; below = omega (arith, b.below, other); alike = b.alike })
  ],
)

-- one that is
pub one_more : (n : ℕ) (k : KeyParts) (own : List OwnSymmetry) (x : OwnSymmetry) → 0 < n → AreOwnBelow n k own → IsShift (Some x.shift) k k n → x.symmetry ≡ n
    → AreOwnBelow (n + 1) k (own ++ x ∷ [])
one_more n k own x high are shift number p is e s t = (listed, found)
  where
    listed : IsListed (own ++ x ∷ []) s t → IsOwnBelow (n + 1) p s t
    listed l = elim (on_append own (x ∷ []) l.item l.listed) [
      | inl old ↦ let b = (are p is e s t).0 (record { item = l.item; listed = old; symmetry = l.symmetry; shift = l.shift }) in record { moves = b.moves; below = omega (arith, b.below); alike = b.alike }
      | inr new ↦ elim new [
        | inl same ↦
            let here : n ≡ s = sym number ∙ ap (λ (y : OwnSymmetry). y.symmetry) same ∙ l.symmetry in
            let place : x.shift ≡ t = ap (λ (y : OwnSymmetry). y.shift) same ∙ l.shift in
            record {
              moves = omega (arith, high, here);
              below = omega (arith, here);
              alike = subst (λ z. Alike p p z t) here (subst (λ u. Alike p p n u) place ((shift p p is is e e x.shift).0 refl));
            }
        | inr none ↦ absurd none
      ]
    ]

    found : IsOwnBelow (n + 1) p s t → IsListed (own ++ x ∷ []) s t
    found b = elim (cases_eq s n) [
      | inl same ↦
          let both : Some x.shift ≡ Some t = (shift p p is is e e t).1 (subst (λ z. Alike p p z t) same b.alike) in
          let place : x.shift ≡ t = cc in
          record { item = x; listed = append_right own (x ∷ []) x (inl refl); symmetry = number ∙ sym same; shift = place }
      | inr other ↦
          let l = (are p is e s t).1 (record { moves = b.moves; below = omega (arith, b.below, other); alike = b.alike }) in
          record { item = l.item; listed = append_left own (x ∷ []) l.item l.listed; symmetry = l.symmetry; shift = l.shift }
    ]

-- a move and its image are followed by as many lists of moves
pub lines_own : (p : Position) (own : List OwnSymmetry) (o : OwnSymmetry) (m : Move) → IsBoard p.board → AreOwn (key p) own → IsOn own o → IsOn (moves p) m
    → (k n : ℕ) → StandsWithin k p.board → k + n < 9000 → lines (after p m) n ≡ lines (after p (move_by o.symmetry o.shift m)) n
lines_own p own o m is are on legal k n w low =
    let b = (are p is refl o.symmetry o.shift).0 (record { item = o; listed = on; symmetry = refl; shift = refl }) in
    let takes : TakesMove p m p (move_by o.symmetry o.shift m) = record { symmetry = o.symmetry; is_symmetry = b.below; shift = o.shift; alike = b.alike; takes = refl } in
    lines_taken p m p (move_by o.symmetry o.shift m) is is takes legal k n w w low
