-- A legal move keeps a board a board, and no piece of it is more than one place further out.
use Rattle.std.proofs.Common.{◌≡◌, ℕ, ◌+◌, ◌≤◌, ◌<◌, inl, inr, refl, sym, ◌∙◌, ap, subst, arith}
use Rattle.std.specs.Prelude.{Some, None}
use Rattle.std.proofs.lemmas.Int.{ints}
use Rattle.hive_model.specs.declared.places.Place.{Place}
use Rattle.hive_model.specs.declared.places.Spot.{Spot}
use Rattle.hive_model.specs.declared.places.Move.{Move}
use Rattle.hive_model.specs.declared.places.Move.TheVariants.{Pass, To}
use Rattle.hive_model.specs.Lists.{IsOn}
use Rattle.hive_model.specs.Places.{origin, IsWithin}
use Rattle.hive_model.specs.Boards.{Stacks, height_at, spot_of, without, without_at, StandsAt, IsBoard, StandsWithin}
use Rattle.hive_model.specs.Near.{near}
use Rattle.hive_model.specs.Positions.{Position}
use Rattle.hive_model.specs.Legal.{LegalPair, moves}
use Rattle.hive_model.specs.Games.{after}
use Rattle.symmetry.specs.Alike.{IsPlaced}
use Rattle.hive_model.proofs.GetLemmas.{get_within}
use Rattle.hive_model.proofs.PlaceLemmas.{widened, step_inside}
use Rattle.hive_model.proofs.BoardLemmas.{stands_occupied, occupied_stands, spot_of_stands, stands_spot_of, lift_stands}
use Rattle.hive_model.proofs.LiftLemmas.{lift_is_board, lift_is_without}
use Rattle.hive_model.proofs.NearLaws.{near_is}
use Rattle.hive_model.proofs.LegalLaws.{from_legal_pair, legal_is_piece, near_legal}
use Rattle.hive_model.proofs.KeepLaws.{board_put, was_or_new}
use Rattle.hive_model.proofs.MoveLaws.{moves_legal}

-- the board c is what is left of the board b when the piece x goes
record IsLeft (b c : Stacks) (x : ℕ) : Type 0 where
  board : IsBoard c
  stood : (y : ℕ) (q : Place) (i : ℕ) → StandsAt c y q i → StandsAt b y q i
  gone : (q : Place) (i : ℕ) → ¬ StandsAt c x q i

left_hand : (b : Stacks) (x : ℕ) → IsBoard b → spot_of b x ≡ None → IsLeft b (without b x) x
left_hand b x is off = subst (λ c. IsLeft b c x) (sym (ap (without_at b) off)) (record {
  board = is;
  stood = λ y q i h. h;
  gone = λ q i h. let wrong : None ≡ Some (record { place = q; level = i }) = sym off ∙ stands_spot_of b is x q i h in cc;
})

left_top : (b : Stacks) (x : ℕ) (s : Spot) → IsBoard b → spot_of b x ≡ Some s → s.level + 1 ≡ height_at b s.place → IsLeft b (without b x) x
left_top b x s is e top =
    let stands = spot_of_stands b x s e in
    subst (λ c. IsLeft b c x) (lift_is_without b x s e top) (record {
      board = lift_is_board b is x s.place s.level stands (sym top);
      stood = λ y q i h. (lift_stands b is x s.place s.level stands (sym top) y q i h).0;
      gone = λ q i h. (lift_stands b is x s.place s.level stands (sym top) x q i h).1 refl;
    })

-- the piece of a legal pair is in hand or on top
left_by : (p : Position) → IsBoard p.board → (x : ℕ) (q : Place) → LegalPair p x q → IsLeft p.board (without p.board x) x
left_by p is x q h = elim h [
  | inl placed ↦ left_hand p.board x is placed.next.in_hand.off
  | inr (queen, moved) ↦ elim moved [
    | inl walk ↦ left_top p.board x walk.from is walk.stands walk.on_top
    | inr throw ↦
        let thrown = throw.throws in
        let level = get_within _ throw.from.level x (spot_of_stands p.board x throw.from thrown.stands) in
        let alone : height_at p.board throw.from.place ≡ 1 = thrown.alone in
        left_top p.board x throw.from is thrown.stands (omega (arith, level, alone))
  ]
]

origin_within : (n : ℕ) → IsWithin n origin
origin_within n = record { q_low = omega (arith, ints); q_high = omega (arith, ints); r_low = omega (arith, ints); r_high = omega (arith, ints) }

-- a near place is one further out at most
near_within : (b : Stacks) (k : ℕ) → IsBoard b → StandsWithin k b → (q : Place) → IsOn (near b) q → IsWithin (k + 1) q
near_within b k is w q on = elim (near_is b is.stacks q on) [
  | inl first ↦ subst (IsWithin (k + 1)) (sym first) (origin_within (k + 1))
  | inr (z, taken, close) ↦ elim close [
    | inl same ↦ subst (IsWithin (k + 1)) (sym same) (widened k (k + 1) (omega arith) z (w z taken))
    | inr (d, leads) ↦ subst (IsWithin (k + 1)) leads (step_inside k (k + 1) (omega arith) z d (w z taken))
  ]
]

listed_within : (p : Position) (k x : ℕ) (q : Place) → IsBoard p.board → StandsWithin k p.board → IsOn (moves p) (To x q) → IsWithin (k + 1) q
listed_within p k x q is w on =
    let legal = moves_legal p is (To x q) on in
    near_within p.board k is w q (near_legal p x q is (from_legal_pair p is x q legal.1))

pub legal_placed : (p : Position) (m : Move) → IsBoard p.board → IsOn (moves p) m → IsPlaced m
legal_placed p Pass is on = tt
legal_placed p (To x q) is on = listed_within p 9000 x q is is.within on

pub board_after : (p : Position) (k : ℕ) (m : Move) → IsBoard p.board → StandsWithin k p.board → k < 9000 → IsOn (moves p) m → IsBoard (after p m).board × StandsWithin (k + 1) (after p m).board
unfolding after
board_after p k Pass is w low on = (is, λ q h. widened k (k + 1) (omega arith) q (w q h))
board_after p k (To x q) is w low on =
    let c = without p.board x in
    let pair = (moves_legal p is (To x q) on).1 in
    let left = left_by p is x q pair in
    let inside = listed_within p k x q is w on in
    let high : k + 1 ≤ 9000 = omega (arith, low) in (
      board_put c x q left.board (legal_is_piece p is x q pair) (widened (k + 1) 9000 high q inside) left.gone,
      λ z h. elim (was_or_new c x q z h) [
        | inl old ↦
            let y = occupied_stands c z old in
            widened k (k + 1) (omega arith) z (w z (stands_occupied p.board y.0 z 0 (left.stood y.0 z 0 y.1)))
        | inr new ↦ subst (IsWithin (k + 1)) (sym new) inside
      ],
    )
