-- No position has more than 5,488 legal moves: 28 pieces times 196 places.
use Rattle.std.proofs.Common.{◌≡◌, ℕ, ◌*◌, ◌≤◌, ◌<◌, true, false, cond, List, [], ◌∷◌, ◌++◌, length, length-append, refl, subst, arith, inl, inr, Some, None, filter, map}
use Rattle.std.specs.Prelude.{IsTrue}
use Rattle.std.specs.List.{flat_map}
use Rattle.std.proofs.lemmas.Bool.{ltb-true}
use Rattle.std.proofs.lemmas.List.{length-map}
use Rattle.hive_model.specs.declared.places.Place.{Place}
use Rattle.hive_model.specs.declared.places.Move.{Move}
use Rattle.hive_model.specs.declared.places.Move.TheVariants.{To}
use Rattle.hive_model.specs.Lists.{IsOn, Rises}
use Rattle.hive_model.specs.Places.{place_cmp, origin, neighbours}
use Rattle.hive_model.specs.Pieces.{all_pieces}
use Rattle.hive_model.specs.Boards.{Stacks, IsBoard, is_occupied, height_at, spot_of, places_of}
use Rattle.hive_model.specs.declared.places.Spot.{Spot}
use Rattle.hive_model.specs.Near.{near}
use Rattle.hive_model.specs.Positions.{Position}
use Rattle.hive_model.specs.Legal.{LegalPair, is_legal_pair, pairs, or_pass, moves, is_over}
use Rattle.hive_model.proofs.Floods.{on_filter}
use Rattle.hive_model.proofs.MoveLaws.{rises_filter}
use Rattle.hive_model.proofs.PlaceLemmas.{places_total}
use Rattle.hive_model.proofs.PieceLaws.{pieces_on}
use Rattle.hive_model.proofs.NearLaws.{rises_in_order, on_occupied, near_place}
use Rattle.hive_model.proofs.LegalLaws.{legal_pair_from}
use Rattle.hive_model.proofs.CountLaws.{rising_short, rising_distinct, distinct_short, near_few}
use Rattle.legal_moves.specs.Going.{IsGoal}
use Rattle.legal_moves.proofs.Walking.{no_spot}
use Rattle.legal_moves.proofs.Throwing.{goals_few, walk_goal, throw_goal}

-- empty places near the hive
free-few : (b : Stacks) → IsBoard b → (zs : List Place) → Rises place_cmp zs → ((q : Place) → IsOn zs q → IsOn (near b) q × (height_at b q ≡ 0)) → length zs ≤ 196
free-few [] is zs rise free =
    let short = rising_short places_total zs (near []) rise (λ q on. (free q on).0) in
    let one : length (near []) ≡ 1 = refl in
    omega (arith, short, one)
free-few (e ∷ b) is zs rise free =
    let there : IsTrue (is_occupied (e ∷ b) e.0) = on_occupied (e ∷ b) is.stacks e.0 (inl refl) in
    let other : ¬ IsOn zs e.0 = λ on. let low = ltb-true 0 (height_at (e ∷ b) e.0) there in let none = (free e.0 on).1 in omega (arith, low, none) in
    let short = distinct_short (e.0 ∷ zs) (near (e ∷ b)) (other, rising_distinct places_total zs rise)
    (λ q on. elim on [ inl same ↦ subst (IsOn (near (e ∷ b))) same (near_place (e ∷ b) e.0 there) | inr later ↦ (free q later).0 ]) in
    let few = near_few (e ∷ b) is in
    omega (arith, short, few)

-- the places to which a piece may go
abbrev goals : Position → ℕ → List Place
goals p x = filter (is_legal_pair p x) (near p.board)

goals-rise : (p : Position) (x : ℕ) → Rises place_cmp (goals p x)
goals-rise p x = rises_filter place_cmp (is_legal_pair p x) (near p.board) (rises_in_order (origin ∷ places_of p.board ++ flat_map neighbours (places_of p.board)))

module _ (p : Position) (is : IsBoard p.board) (x : ℕ) (small : x < 28) where
  legal : (q : Place) → IsOn (goals p x) q → IsOn (near p.board) q × LegalPair p x q
  legal q on = let kept = on_filter (is_legal_pair p x) (near p.board) q on in (kept.0, legal_pair_from p is x small q kept.1)

  in-hand : spot_of p.board x ≡ None → (q : Place) → IsOn (goals p x) q → IsOn (near p.board) q × (height_at p.board q ≡ 0)
  in-hand none q on = let both = legal q on in (
    both.0,
    elim both.1 [
      | inl placed ↦ placed.place.empty
      | inr (queen, moved) ↦ elim moved [
        | inl walk ↦ no_spot (spot_of p.board x) walk.from none walk.stands
        | inr throw ↦ no_spot (spot_of p.board x) throw.from none throw.throws.stands
      ]
    ],
  )

  in-play : (s : Spot) → spot_of p.board x ≡ Some s → (q : Place) → IsOn (goals p x) q → IsGoal p.board x q
  in-play s stands q on = elim (legal q on).1 [
    | inl placed ↦ no_spot (spot_of p.board x) s placed.next.in_hand.off stands
    | inr (queen, moved) ↦ elim moved [
      | inl walk ↦ walk_goal p is queen x q walk
      | inr throw ↦ throw_goal p.board p.rest throw.thrower x q (throw.over, throw.is_thrower, (throw.from, throw.throws))
    ]
  ]

  pub goals-few : length (goals p x) ≤ 196
  goals-few =
      elim (spot_of p.board x) as (λ o. spot_of p.board x ≡ o → length (goals p x) ≤ 196) [
        | None ↦ λ none. free-few p.board is (goals p x) (goals-rise p x) (in-hand none)
        | Some s ↦ λ stands. goals_few p.board is x (goals p x) (goals-rise p x) (in-play s stands)
      ] refl

flat-few : (f : ℕ → List Move) (xs : List ℕ) → ((x : ℕ) → IsOn xs x → length (f x) ≤ 196) → length (flat_map f xs) ≤ 196 * length xs
flat-few f [] few = omega arith
flat-few f (x ∷ xs) few =
    let here = few x (inl refl) in
    let later = flat-few f xs (λ y on. few y (inr on)) in
    omega (arith, length-append (f x) (flat_map f xs), here, later)

pairs-few : (p : Position) → IsBoard p.board → length (pairs p) ≤ 5488
unfolding pairs
pairs-few p is =
    let all = flat-few (λ x. map (λ q. To x q) (goals p x)) all_pieces
    (λ x on. let same = length-map (goals p x) (λ q. To x q) in let few = goals-few p is x (pieces_on x on) in omega (arith, same, few)) in
    let many : length all_pieces ≡ 28 = refl in
    omega (arith, all, many)

passed-few : (ms : List Move) → length ms ≤ 5488 → length (or_pass ms) ≤ 5488
passed-few [] few = omega arith
passed-few (m ∷ ms) few = few

pub moves-few : (p : Position) → IsBoard p.board → length (moves p) ≤ 5488
unfolding moves
moves-few p is =
    elim (is_over p) as (λ over. length (cond over [] (or_pass (pairs p))) ≤ 5488) [
      | true ↦ omega arith
      | false ↦ passed-few (pairs p) (pairs-few p is)
    ]
