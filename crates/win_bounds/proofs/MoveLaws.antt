-- No legal move surrounds a queen that is out of reach: the other side's if far from a win, the
-- side's own if far from a loss.
use Rattle.std.proofs.Common.{◌≡◌, ◌≢◌, ℕ, ◌-◌, ◌≤◌, true, false, length, inl, inr, refl, sym, ◌∙◌, ap, subst, arith}
use Rattle.std.specs.Prelude.{Some, None, IsTrue, nat_eq, slice_get}
use Rattle.std.specs.List.{filter}
use Rattle.std.proofs.lemmas.Bool.{false_from_ne_true, eqb-true, eq-eqb}
use Rattle.hive_model.specs.declared.pieces.Colour.{Colour}
use Rattle.hive_model.specs.declared.pieces.Colour.TheVariants.{White, Black}
use Rattle.hive_model.specs.declared.pieces.Kind.TheVariants.{Queen}
use Rattle.hive_model.specs.declared.places.Place.{Place}
use Rattle.hive_model.specs.declared.places.Dir.{Dir}
use Rattle.hive_model.specs.declared.places.Spot.{Spot}
use Rattle.hive_model.specs.declared.places.Move.{Move}
use Rattle.hive_model.specs.declared.places.Move.TheVariants.{Pass, To}
use Rattle.hive_model.specs.Lists.{IsOn}
use Rattle.hive_model.specs.Pieces.{kind_of, colour_of, other_side, queen_of}
use Rattle.hive_model.specs.Places.{step, neighbours}
use Rattle.hive_model.specs.Boards.{Stacks, stack_at, height_at, is_occupied, top_at, spot_of, lift, IsBoard}
use Rattle.hive_model.specs.Evaluation.{occupied_round}
use Rattle.hive_model.specs.Reach.{Reach, MovesAs}
use Rattle.hive_model.specs.Positions.{Position}
use Rattle.hive_model.specs.Placement.{Placement}
use Rattle.hive_model.specs.Throws.{Throw}
use Rattle.hive_model.specs.Legal.{IsSurrounded, Walk, LegalPair, is_surrounded, moves}
use Rattle.hive_model.specs.Games.{after, after_board}
use Rattle.hive_model.proofs.GetLemmas.{get_within}
use Rattle.hive_model.proofs.BoardLemmas.{occupied_stands, spot_of_stands, stands_spot_of}
use Rattle.hive_model.proofs.LegalLaws.{opposite, back}
use Rattle.hive_model.proofs.MoveLaws.{moves_legal}
use Rattle.hive_model.proofs.ReachLaws.{step_moves}
use Rattle.hive_model.proofs.OverLaws.{surrounded_from}
use Rattle.win_bounds.specs.FarFromWin.{IsHole, IsBesideThrower, IsOutOfReach, IsFarFromWin, IsFarFromLoss}
use Rattle.win_bounds.proofs.RoundLaws.{five_round}
use Rattle.win_bounds.proofs.ThrowLaws.{thrown_to}
use Rattle.win_bounds.proofs.StoodLaws.{stood_before, was_occupied}

queen_colour : (c : Colour) → colour_of (queen_of c) ≡ c
queen_colour White = refl
queen_colour Black = refl

queen_kind : (c : Colour) → kind_of (queen_of c) ≡ Queen
queen_kind White = refl
queen_kind Black = refl

other_colour : (c : Colour) → other_side c ≢ c
other_colour White e = cc
other_colour Black e = cc

own_spares : (c : Colour) (x : ℕ) → colour_of x ≡ c → x ≢ queen_of (other_side c)
own_spares c x own same = other_colour c (sym (queen_colour (other_side c)) ∙ ap colour_of (sym same) ∙ own)

-- a piece alone on its place is its top
alone_top : (b : Stacks) (y : ℕ) (t : Spot) → spot_of b y ≡ Some t → height_at b t.place ≡ 1 → top_at b t.place ≡ Some y
alone_top b y t stands alone =
    let at = spot_of_stands b y t stands in
    let low = get_within (stack_at b t.place) t.level y at in
    let last : height_at b t.place - 1 ≡ t.level = omega (arith, low, alone) in
    ap (slice_get (stack_at b t.place)) last ∙ at

-- a piece that is thrown into a hole was beside such a thrower
thrown_beside : (p : Position) (x : ℕ) (q : Place) (h : Throw p x q) → ((d : Dir) → IsTrue (is_occupied p.board (step q d))) → IsBesideThrower p.board p.side h.from.place
thrown_beside p x q h round =
    let d = h.throws.beside.0 in
    let there : step h.from.place (opposite d) ≡ h.over.place = ap (λ z. step z (opposite d)) (sym h.throws.beside.1) ∙ back h.over.place d in
    let down : q ≡ step (step h.from.place (opposite d)) h.throws.down.dir = sym h.throws.down.leads ∙ ap (λ z. step z h.throws.down.dir) (sym there) in
    record {
      dir = opposite d;
      thrower = h.thrower;
      stands = ap (top_at p.board) there ∙ alone_top p.board h.thrower h.over h.is_thrower.stands h.is_thrower.alone;
      own = h.own;
      kind = elim h.is_thrower.can [ inl pillbug ↦ inl pillbug | inr mosquito ↦ inr mosquito.0 ];
      way = h.throws.down.dir;
      hole = subst (IsHole p.board) down (record { empty = h.throws.empty; round = round });
    }

-- a queen that moves herself is not surrounded afterwards
pub record IsSpared (p : Position) (c : Colour) : Type 0 where
  pub placed : (x : ℕ) (q : Place) → Placement p x q → x ≡ queen_of c → IsSurrounded (after_board p.board (To x q)) c → ⊥
  pub walked : (x : ℕ) (q : Place) → Walk p x q → x ≡ queen_of c → IsSurrounded (after_board p.board (To x q)) c → ⊥

module _ (p : Position) (is : IsBoard p.board) (c : Colour) (far : IsOutOfReach p.board p.side c) where
  -- a thrown queen is not surrounded where she comes down
  not_thrown : (x : ℕ) (q : Place) → Throw p x q → x ≡ queen_of c → IsSurrounded (after_board p.board (To x q)) c → ⊥
  not_thrown x q throw same h =
      let b = p.board in
      let stands = spot_of_stands (after_board b (To x q)) x h.spot (ap (spot_of (after_board b (To x q))) same ∙ h.stands) in
      let to : h.spot.place ≡ q = thrown_to b is x throw.from throw.throws.stands throw.throws.alone q h.spot.place h.spot.level stands in
      let round : (d : Dir) → IsTrue (is_occupied b (step q d)) = λ d. elim (was_occupied b x q (step q d) (subst (λ z. IsTrue (is_occupied (after_board b (To x q)) (step z d))) to (h.round d))) [
        | inl old ↦ old
        | inr itself ↦ absurd (step_moves q d itself)
      ] in
      far.unthrown throw.from (ap (spot_of b) (sym same) ∙ throw.throws.stands) (thrown_beside p x q throw round)

  -- any other legal move leaves her where she is
  queen_moved : IsSpared p c → (x : ℕ) (q : Place) → LegalPair p x q → x ≡ queen_of c → IsSurrounded (after_board p.board (To x q)) c → ⊥
  queen_moved spared x q legal same h = elim legal [
    | inl placed ↦ spared.placed x q placed same h
    | inr moved ↦ elim moved.1 [ inl walk ↦ spared.walked x q walk same h | inr throw ↦ not_thrown x q throw same h ]
  ]

  -- she has no five neighbours
  not_five : (q : Place) (level : ℕ) → spot_of p.board (queen_of c) ≡ Some (record { place = q; level = level }) → 5 ≤ length (filter (is_occupied p.board) (neighbours q)) → ⊥
  not_five q level at five = omega (arith, far.few, five, ap (occupied_round p.board) at)

  not_now : IsSurrounded p.board c → ⊥
  not_now h = not_five h.spot.place h.spot.level h.stands (five_round (is_occupied p.board) h.spot.place h.spot.place (λ d. inl (h.round d)))

  -- nor is she surrounded before the move
  pub unreached_now : is_surrounded p.board c ≡ false
  unreached_now = false_from_ne_true _ (λ e. not_now (surrounded_from p.board c e))

  not_surrounded : IsSpared p c → (m : Move) → IsOn (moves p) m → IsSurrounded (after_board p.board m) c → ⊥
  not_surrounded spared Pass on h = not_now h
  not_surrounded spared (To x q) on h =
      let b = p.board in
      let queen = queen_of c in
      let legal = moves_legal p is (To x q) on in
      let stays : queen ≢ x = (λ e. queen_moved spared x q legal.1 (sym e) h) in
      let stood = stood_before b x q queen h.spot.place h.spot.level stays (spot_of_stands (after_board b (To x q)) queen h.spot h.stands) in
      not_five h.spot.place stood.0 (stands_spot_of b is queen h.spot.place stood.0 stood.1)
      (five_round (is_occupied b) h.spot.place q (λ d. was_occupied b x q (step h.spot.place d) (h.round d)))

  pub unreached_moves : IsSpared p c → (m : Move) → IsOn (moves p) m → is_surrounded (after p m).board c ≡ false
  unfolding after
  unreached_moves spared m on = false_from_ne_true _ (λ e. not_surrounded spared m on (surrounded_from (after_board p.board m) c e))

-- the other side's queen is not placed, and does not walk
other_spared : (p : Position) → IsSpared p (other_side p.side)
other_spared p = record { placed = λ x q placed same h. own_spares p.side x placed.own same; walked = λ x q walk same h. own_spares p.side x walk.own same }

pub far_moves : (p : Position) → IsBoard p.board → IsFarFromWin p → (m : Move) → IsOn (moves p) m → is_surrounded (after p m).board (other_side p.side) ≡ false
far_moves p is far = unreached_moves p is (other_side p.side) far (other_spared p)

pub far_now : (p : Position) → IsBoard p.board → IsFarFromWin p → is_surrounded p.board (other_side p.side) ≡ false
far_now p is far = unreached_now p is (other_side p.side) far

-- a piece that was alone on its place leaves it empty
left_empty : (b : Stacks) → IsBoard b → (x : ℕ) (s : Spot) → spot_of b x ≡ Some s → height_at b s.place ≡ 1 → (q : Place) → s.place ≢ q → IsTrue (is_occupied (after_board b (To x q)) s.place) → ⊥
left_empty b is x s at alone q other occupied =
    let first = occupied_stands (after_board b (To x q)) s.place occupied in
    elim (nat_eq first.0 x) as (λ t. nat_eq first.0 x ≡ t → ⊥) [
      | true ↦ λ e.
          let same : first.0 ≡ x = eqb-true first.0 x e in
          other (thrown_to b is x s at alone q s.place 0 (subst (λ y. slice_get (stack_at (after_board b (To x q)) s.place) 0 ≡ Some y) same first.1))
      | false ↦ λ e.
          let apart : first.0 ≢ x = (λ same. let wrong : true ≡ false = sym (eq-eqb first.0 x same) ∙ e in cc) in
          let stood = stood_before b x q first.0 s.place 0 apart first.1 in
          let mine = spot_of_stands b x s at in
          let low = get_within (stack_at b s.place) stood.0 first.0 stood.1 in
          let here = get_within (stack_at b s.place) s.level x mine in
          let level : stood.0 ≡ s.level = omega (arith, low, here, alone) in
          let both : Some first.0 ≡ Some x = sym stood.1 ∙ ap (slice_get (stack_at b s.place)) level ∙ mine in
          apart (let one : first.0 ≡ x = cc in one)
    ] refl

-- if the side's own queen walks, she leaves an empty place beside her
queen_walks : (p : Position) → IsBoard p.board → IsFarFromLoss p → (x : ℕ) (q : Place) → Walk p x q → x ≡ queen_of p.side → IsSurrounded (after_board p.board (To x q)) p.side → ⊥
queen_walks p is far x q walk same h =
    let b = p.board in
    let one : Some walk.from ≡ Some far.queen = sym walk.stands ∙ ap (spot_of b) same ∙ far.stands in
    let spot : walk.from ≡ far.queen = cc in
    let low : walk.from.level ≡ 0 = ap (λ (s : Spot). s.level) spot ∙ far.ground in
    let top = walk.on_top in
    let alone : height_at b walk.from.place ≡ 1 = omega (arith, low, top) in
    let kind : kind_of x ≡ Queen = ap kind_of same ∙ queen_kind p.side in
    let reach : Reach Queen (lift b x) walk.from.place q = subst (λ k. MovesAs k (lift b x) walk.from.place q) kind walk.moves in
    let stands = spot_of_stands (after_board b (To x q)) x h.spot (ap (spot_of (after_board b (To x q))) same ∙ h.stands) in
    let to : h.spot.place ≡ q = thrown_to b is x walk.from walk.stands alone q h.spot.place h.spot.level stands in
    let behind : step q (opposite reach.1.dir) ≡ walk.from.place = ap (λ z. step z (opposite reach.1.dir)) (sym reach.1.leads) ∙ back walk.from.place reach.1.dir in
    let round : IsTrue (is_occupied (after_board b (To x q)) walk.from.place) =
    subst (λ z. IsTrue (is_occupied (after_board b (To x q)) z)) behind (subst (λ z. IsTrue (is_occupied (after_board b (To x q)) (step z (opposite reach.1.dir)))) to (h.round (opposite reach.1.dir))) in
    left_empty b is x walk.from walk.stands alone q reach.0 round

own_spared : (p : Position) → IsBoard p.board → IsFarFromLoss p → IsSpared p p.side
own_spared p is far = record {
  placed = λ x q placed same h. let off : None ≡ Some far.queen = sym placed.next.in_hand.off ∙ ap (spot_of p.board) same ∙ far.stands in cc;
  walked = queen_walks p is far;
}

pub safe_moves : (p : Position) → IsBoard p.board → IsFarFromLoss p → (m : Move) → IsOn (moves p) m → is_surrounded (after p m).board p.side ≡ false
safe_moves p is far = unreached_moves p is p.side far.reach (own_spared p is far)

pub safe_now : (p : Position) → IsBoard p.board → IsFarFromLoss p → is_surrounded p.board p.side ≡ false
safe_now p is far = unreached_now p is p.side far.reach
