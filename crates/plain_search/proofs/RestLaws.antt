-- Legal moves, if the resting piece is one that the side to move can neither move nor throw.
use Rattle.std.proofs.Common.{◌≡◌, ℕ, Bool, true, false, not, ◌&&◌, ◌||◌, [], ◌⊎◌, inl, inr, refl, sym, ◌∙◌, ap, if◌then◌else◌}
use Rattle.std.specs.Prelude.{Option, Some, None, nat_eq, map}
use Rattle.std.specs.List.{filter, flat_map}
use Rattle.std.proofs.lemmas.Bool.{eqb-true, and_parts, false_from_ne_true}
use Rattle.hive_model.specs.declared.pieces.Kind.TheVariants.{Mosquito, Pillbug}
use Rattle.hive_model.specs.declared.places.Place.{Place}
use Rattle.hive_model.specs.declared.places.Spot.{Spot}
use Rattle.hive_model.specs.declared.places.Move.TheVariants.{To}
use Rattle.hive_model.specs.Pieces.{kind_of, colour_of, is_colour, all_pieces, queen_of}
use Rattle.hive_model.specs.Boards.{Stacks, height_at, spot_of, is_in_play, is_top_spot, lift}
use Rattle.hive_model.specs.Hive.{are_neighbours, is_cut}
use Rattle.hive_model.specs.Near.{near}
use Rattle.hive_model.specs.Positions.{Position, is_piece}
use Rattle.hive_model.specs.Reach.{moves_as}
use Rattle.hive_model.specs.Placement.{is_placement}
use Rattle.hive_model.specs.Throws.{can_throw, throws_from, is_thrower, throws_over, is_thrown_by, is_throw}
use Rattle.hive_model.specs.Legal.{state, is_over, walks_from, is_walk, is_legal_pair, pairs, or_pass, moves}
use Rattle.hive_model.proofs.PieceLaws.{same_colour}
use Rattle.hive_model.proofs.RuleLaws.{neighbours_from}
use Rattle.hive_model.proofs.ThrowLaws.{can_from}
use Rattle.plain_search.specs.Rested.{RestsUntouched, awake, RestDoesNotMatter}
use Rattle.plain_search.proofs.LikePositions.{and_same, any_same, not_other}

-- a first test that fails only if the second fails too is not needed
not_needed : (t u v : Bool) → (t ≡ true → u ≡ false) → (not t && (u && v)) ≡ (u && v)
not_needed true u v h = sym (ap (λ w. w && v) (h refl))
not_needed false u v h = refl

rest_is : (z : ℕ) (o : Option ℕ) → is_piece z o ≡ true → o ≡ Some z
rest_is z None e = let wrong : false ≡ true = e in absurd (cc)
rest_is z (Some y) e = ap Some (sym (eqb-true z y e))

thrower_kind : (b : Stacks) (z : ℕ) (s : Spot) → throws_from b None z (Some s) ≡ true → (kind_of z ≡ Pillbug) ⊎ (kind_of z ≡ Mosquito)
thrower_kind b z s e = elim (can_from b z s.place (and_parts (nat_eq (height_at b s.place) 1) (can_throw b z s.place) e).1) [ inl own ↦ inl own | inr copy ↦ inr copy.0 ]

module _ (p : Position) (k : RestsUntouched p) where
  own_awake : (z : ℕ) → colour_of z ≡ p.side → is_piece z p.rest ≡ false
  own_awake z own = false_from_ne_true _ (λ e. not_other p.side (sym own ∙ k.theirs z (rest_is z p.rest e)))

  -- Walks

  walks_same : (z : ℕ) (r : Place) → is_piece z p.rest ≡ false → (o : Option Spot) → walks_from p z o r ≡ walks_from (awake p) z o r
  walks_same z r e None = refl
  walks_same z r e (Some s) = ap (λ t. is_top_spot p.board (Some s) && (not t && (not (is_cut p.board s.place) && moves_as (kind_of z) (lift p.board z) s.place r))) e

  walk_same : (z : ℕ) (r : Place) → is_walk p z r ≡ is_walk (awake p) z r
  walk_same z r = and_same (is_colour (colour_of z) p.side) _ _ (λ e. walks_same z r (own_awake z (same_colour _ _ e)) (spot_of p.board z))

  -- Throws

  throws_same : (z : ℕ) → is_piece z p.rest ≡ false → (o : Option Spot) → throws_from p.board p.rest z o ≡ throws_from p.board None z o
  throws_same z e None = refl
  throws_same z e (Some s) = ap (λ t. nat_eq (height_at p.board s.place) 1 && (not t && can_throw p.board z s.place)) e

  -- no thrower is beside the resting piece
  not_beside : (w z : ℕ) (s a : Spot) → colour_of w ≡ p.side → spot_of p.board w ≡ Some s → throws_from p.board None w (Some s) ≡ true → spot_of p.board z ≡ Some a → is_piece z p.rest ≡ true → are_neighbours s.place a.place ≡ false
  not_beside w z s a own over throws from rests = false_from_ne_true _ (λ e.
      k.untouched z w a s (rest_is z p.rest rests) from own (thrower_kind p.board w s throws) over (neighbours_from s.place a.place e))

  over_same : (w z : ℕ) (r : Place) → colour_of w ≡ p.side → (o q : Option Spot) → spot_of p.board w ≡ o → throws_from p.board None w o ≡ true → spot_of p.board z ≡ q
      → throws_over p.board p.rest o z q r ≡ throws_over p.board None o z q r
  over_same w z r own None q over throws from = refl
  over_same w z r own (Some s) None over throws from = refl
  over_same w z r own (Some s) (Some a) over throws from =
      ap (λ t. nat_eq (height_at p.board a.place) 1 && t)
      (not_needed (is_piece z p.rest) (are_neighbours s.place a.place) _ (not_beside w z s a own over throws from))

  thrown_same : (w z : ℕ) (r : Place) → colour_of w ≡ p.side → (is_thrower p.board p.rest w && is_thrown_by p.board p.rest w z r) ≡ (is_thrower p.board None w && is_thrown_by p.board None w z r)
  thrown_same w z r own =
      ap (λ t. t && is_thrown_by p.board p.rest w z r) (throws_same w (own_awake w own) (spot_of p.board w))
      ∙ and_same (is_thrower p.board None w) _ _ (λ e. over_same w z r own (spot_of p.board w) (spot_of p.board z) refl e refl)

  throw_same : (z : ℕ) (r : Place) → is_throw p z r ≡ is_throw (awake p) z r
  throw_same z r = any_same _ _ (λ w. and_same (is_colour (colour_of w) p.side) _ _ (λ e. thrown_same w z r (same_colour _ _ e))) all_pieces

  -- Legal moves

  legal_same : (z : ℕ) (r : Place) → is_legal_pair p z r ≡ is_legal_pair (awake p) z r
  legal_same z r =
      let walk = walk_same z r in
      let throw = throw_same z r in
      λ i. is_placement p z r || is_in_play p.board (queen_of p.side) && (walk i || throw i)

  pairs_same : pairs p ≡ pairs (awake p)
  unfolding pairs
  pairs_same = λ i. flat_map (λ z. map (λ r. To z r) (filter (λ r. legal_same z r i) (near p.board))) all_pieces

  over_as_awake : is_over p ≡ is_over (awake p)
  unfolding state
  over_as_awake = refl

  all_same : moves p ≡ moves (awake p)
  unfolding moves
  all_same =
      let over = over_as_awake in
      let listed = pairs_same in
      λ i. if over i then [] else or_pass (listed i)

pub rest_does_not_matter : RestDoesNotMatter
rest_does_not_matter p k = all_same p k
