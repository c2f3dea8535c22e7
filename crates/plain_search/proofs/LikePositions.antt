-- Legal moves of a side after the other placed one piece or another on one place.
use Rattle.std.proofs.Common.{◌≡◌, ◌≢◌, ℕ, ◌+◌, Bool, true, false, not, ◌&&◌, ◌||◌, List, [], ◌∷◌, inl, inr, refl, sym, ◌∙◌, ap, subst, if◌then◌else◌}
use Rattle.std.specs.Prelude.{Option, Some, None, is_some, nat_eq, nat_lt, map, slice_get}
use Rattle.std.specs.List.{list_any, list_all, filter, flat_map}
use Rattle.std.proofs.lemmas.Bool.{eqb-true, eq-eqb, and_parts, false_from_ne_true, cases_eq}
use Rattle.hive_model.specs.declared.pieces.Colour.{Colour}
use Rattle.hive_model.specs.declared.pieces.Colour.TheVariants.{White, Black}
use Rattle.hive_model.specs.declared.pieces.GameType.{GameType}
use Rattle.hive_model.specs.declared.pieces.Kind.TheVariants.{Queen, Mosquito, Pillbug}
use Rattle.hive_model.specs.declared.places.Place.{Place}
use Rattle.hive_model.specs.declared.places.Spot.{Spot}
use Rattle.hive_model.specs.declared.places.Move.TheVariants.{To}
use Rattle.hive_model.specs.Pieces.{kind_of, colour_of, is_kind, is_colour, is_like, has_kind, other_side, all_pieces, queen_of}
use Rattle.hive_model.specs.Places.{is_place, step, dirs, origin, AreNeighbours}
use Rattle.hive_model.specs.Boards.{Stacks, stack_at, height_at, top_of, top_at, spot_of, is_in_play, lift}
use Rattle.hive_model.specs.Hive.{are_neighbours}
use Rattle.hive_model.specs.Placement.{has_colour, is_in_hand, is_least_in_hand, shows_colour, touches, may_place, is_placement}
use Rattle.hive_model.specs.Throws.{is_pillbug, can_throw, throws_from, is_thrower, throws_over, is_thrown_by, is_throw}
use Rattle.hive_model.specs.Legal.{is_surrounded_at, is_surrounded, state_from, state, is_over_state, is_over, walks_from, is_walk, is_legal_pair, pairs, or_pass, moves}
use Rattle.hive_model.proofs.PlaceLemmas.{cases_place}
use Rattle.hive_model.proofs.PieceLaws.{same_kind, same_colour}
use Rattle.hive_model.proofs.BoardLemmas.{spot_of_stands}
use Rattle.hive_model.proofs.GetLemmas.{get_cases}
use Rattle.plain_search.proofs.LikeBoards.{AreLike, occupied, tops, cut_same, lift_like, near_same}
use Rattle.plain_search.proofs.LikeReach.{free_same, moves_same}

-- the side that did not place is to move; the boards have the one piece or the other on the place
pub record ArePlaced (side : Colour) (q : Place) (x y : ℕ) (b c : Stacks) : Type 0 where
  pub like : AreLike q b c
  pub first : stack_at b q ≡ x ∷ []
  pub second : stack_at c q ≡ y ∷ []
  pub first_own : colour_of x ≡ other_side side
  pub second_own : colour_of y ≡ other_side side
  pub first_plain : kind_of x ≢ Queen
  pub second_plain : kind_of y ≢ Queen
  pub first_only : spot_of c x ≡ None
  pub second_only : spot_of b y ≡ None
  pub first_shows : has_colour b (other_side side) ≡ true
  pub second_shows : has_colour c (other_side side) ≡ true
  pub spots : (z : ℕ) → z ≢ x → z ≢ y → spot_of b z ≡ spot_of c z
  pub no_copy : (z : ℕ) → kind_of z ≡ Mosquito → colour_of z ≡ side → (s : Spot) → spot_of b z ≡ Some s → ¬ AreNeighbours s.place q

-- Tests in a row

pub and_same : (t u v : Bool) → (t ≡ true → u ≡ v) → (t && u) ≡ (t && v)
and_same true u v h = h refl
and_same false u v h = refl

pub any_same : {X : Type 0} (f g : X → Bool) → ((z : X) → f z ≡ g z) → (zs : List X) → list_any f zs ≡ list_any g zs
any_same f g h zs = ap (λ t. list_any t zs) (λ i z. h z i)

not_then : (t u v : Bool) → u ≡ true → (t && (not u && v)) ≡ false
not_then true u v h = ap (λ w. not w && v) h
not_then false u v h = refl

pub not_other : (c : Colour) → c ≢ other_side c
not_other White e = cc
not_other Black e = cc

module _ (side : Colour) (q : Place) (x y : ℕ) (b c : Stacks) (k : ArePlaced side q x y b c) where
  -- Spots

  apart_from : (w z : ℕ) → colour_of w ≡ other_side side → colour_of z ≡ side → z ≢ w
  apart_from w z theirs own e = not_other side (sym own ∙ ap colour_of e ∙ theirs)

  own_spot : (z : ℕ) → colour_of z ≡ side → spot_of b z ≡ spot_of c z
  own_spot z own = k.spots z (apart_from x z k.first_own own) (apart_from y z k.second_own own)

  queen_kind : (d : Colour) → kind_of (queen_of d) ≡ Queen
  queen_kind White = refl
  queen_kind Black = refl

  queen_spot : (d : Colour) → spot_of b (queen_of d) ≡ spot_of c (queen_of d)
  queen_spot d = k.spots (queen_of d) (λ e. k.first_plain (ap kind_of (sym e) ∙ queen_kind d)) (λ e. k.second_plain (ap kind_of (sym e) ∙ queen_kind d))

  queen_colour : (d : Colour) → colour_of (queen_of d) ≡ d
  queen_colour White = refl
  queen_colour Black = refl

  only_one : (z : ℕ) (level : ℕ) → slice_get (x ∷ []) level ≡ Some z → z ≡ x
  only_one z level e = elim (get_cases [] x level z e) [ inl none ↦ let wrong : None ≡ Some z = none in absurd (cc) | inr here ↦ sym here.1 ]

  -- no other piece is on the place
  elsewhere : (z : ℕ) → z ≢ x → (s : Spot) → spot_of b z ≡ Some s → s.place ≢ q
  elsewhere z apart s e same =
      let stands : slice_get (stack_at b s.place) s.level ≡ Some z = spot_of_stands b z s e in
      let here : slice_get (x ∷ []) s.level ≡ Some z = ap (λ xs. slice_get xs s.level) (sym k.first) ∙ ap (λ r. slice_get (stack_at b r) s.level) (sym same) ∙ stands in
      apart (only_one z s.level here)

  -- The end of the game

  round : (o : Option Spot) → is_surrounded_at b o ≡ is_surrounded_at c o
  round None = refl
  round (Some s) = λ i. list_all (λ d. occupied q b c k.like (step s.place d) i) dirs

  surrounded_same : (d : Colour) → is_surrounded b d ≡ is_surrounded c d
  surrounded_same d = ap (is_surrounded_at b) (queen_spot d) ∙ round (spot_of c (queen_of d))

  -- Placements

  in_play_own : (z : ℕ) → colour_of z ≡ side → is_in_play b z ≡ is_in_play c z
  in_play_own z own = ap is_some (own_spot z own)

  in_hand_own : (t : GameType) (z : ℕ) → colour_of z ≡ side → is_in_hand t b z ≡ is_in_hand t c z
  in_hand_own t z own = ap (λ u. has_kind t (kind_of z) && not u) (in_play_own z own)

  least_own : (t : GameType) (z : ℕ) → colour_of z ≡ side → is_least_in_hand t b z ≡ is_least_in_hand t c z
  least_own t z own =
      let like : (w : ℕ) → (nat_lt w z && (is_like z w && is_in_hand t b w)) ≡ (nat_lt w z && (is_like z w && is_in_hand t c w)) =
      (λ w. ap (λ u. nat_lt w z && u) (and_same (is_like z w) _ _ (λ e. in_hand_own t w (sym (same_colour _ _ (and_parts (is_kind (kind_of z) (kind_of w)) _ e).1) ∙ own)))) in
      let any = any_same _ _ like all_pieces in
      let hand = in_hand_own t z own in
      λ i. hand i && not (any i)

  has_own : has_colour b side ≡ has_colour c side
  has_own = any_same _ _ (λ z. and_same (is_colour (colour_of z) side) (is_in_play b z) (is_in_play c z) (λ e. in_play_own z (same_colour _ _ e))) all_pieces

  shows_same : (d : Colour) (r : Place) → shows_colour (top_at b r) d ≡ shows_colour (top_at c r) d
  shows_same d r = elim (cases_place r q) [
    | inl same ↦
        let one : shows_colour (top_at b q) d ≡ shows_colour (top_at c q) d =
        ap (λ xs. shows_colour (top_of xs) d) k.first ∙ ap (λ e. is_colour e d) (k.first_own ∙ sym k.second_own) ∙ sym (ap (λ xs. shows_colour (top_of xs) d) k.second) in
        subst (λ z. shows_colour (top_at b z) d ≡ shows_colour (top_at c z) d) (sym same) one
    | inr apart ↦ ap (λ o. shows_colour o d) (tops q b c k.like r apart)
  ]

  touches_same : (d : Colour) (r : Place) → touches b d r ≡ touches c d r
  touches_same d r = any_same _ _ (λ e. shows_same d (step r e)) dirs

  may_place_same : (r : Place) → may_place b side r ≡ may_place c side r
  may_place_same r =
      let high = occupied q b c k.like in
      let their : has_colour b (other_side side) ≡ has_colour c (other_side side) = k.first_shows ∙ sym k.second_shows in
      let theirs = touches_same (other_side side) r in
      let ours = touches_same side r in
      λ i. not (high r i) && (if has_own i then ours i && not (theirs i) else if their i then list_any (λ d. high (step r d) i) dirs else is_place r origin)

  placement_same : (t : GameType) (turn : ℕ) (z : ℕ) (r : Place)
      → is_placement (record { game_type = t; board = b; side = side; turn = turn; rest = Some x }) z r
      ≡ is_placement (record { game_type = t; board = c; side = side; turn = turn; rest = Some y }) z r
  placement_same t turn z r = and_same (is_colour (colour_of z) side) _ _ (λ e.
      let own = same_colour _ _ e in
      let least = least_own t z own in
      let may = may_place_same r in
      let queen = in_play_own (queen_of side) (queen_colour side) in
      λ i. least i && (may i && (not (is_kind (kind_of z) Queen && nat_eq turn 1) && (is_kind (kind_of z) Queen || (nat_lt turn 4 || queen i)))))

  -- Walks

  awake : (w z : ℕ) → z ≢ w → nat_eq z w ≡ false
  awake w z apart = false_from_ne_true _ (λ e. apart (eqb-true z w e))

  awake_same : (z : ℕ) → z ≢ x → z ≢ y → nat_eq z x ≡ nat_eq z y
  awake_same z one two = awake x z one ∙ sym (awake y z two)

  walks_same : (t : GameType) (turn : ℕ) (z : ℕ) (r : Place) → colour_of z ≡ side → (o : Option Spot) → spot_of b z ≡ o
      → walks_from (record { game_type = t; board = b; side = side; turn = turn; rest = Some x }) z o r
      ≡ walks_from (record { game_type = t; board = c; side = side; turn = turn; rest = Some y }) z o r
  walks_same t turn z r own None e = refl
  walks_same t turn z r own (Some s) e =
      let one = apart_from x z k.first_own own in
      let two = apart_from y z k.second_own own in
      let lifted = lift_like q b c k.like z s e (sym (own_spot z own) ∙ e) (elsewhere z one s e) in
      let rests = awake_same z one two in
      let cut = cut_same q b c k.like s.place in
      let goes = moves_same q (lift b z) (lift c z) lifted (kind_of z) s.place r (λ kind. k.no_copy z kind own s e) in
      λ i. nat_eq (s.level + 1) (k.like.heights s.place i) && (not (rests i) && (not (cut i) && goes i))

  walk_same : (t : GameType) (turn : ℕ) (z : ℕ) (r : Place)
      → is_walk (record { game_type = t; board = b; side = side; turn = turn; rest = Some x }) z r
      ≡ is_walk (record { game_type = t; board = c; side = side; turn = turn; rest = Some y }) z r
  walk_same t turn z r = and_same (is_colour (colour_of z) side) _ _ (λ e.
      let own = same_colour _ _ e in
      walks_same t turn z r own (spot_of b z) refl
      ∙ ap (λ o. walks_from (record { game_type = t; board = c; side = side; turn = turn; rest = Some y }) z o r) (own_spot z own))

  -- Throws

  can_same : (z : ℕ) (s : Spot) → colour_of z ≡ side → spot_of b z ≡ Some s → can_throw b z s.place ≡ can_throw c z s.place
  can_same z s own e = ap (λ t. is_kind (kind_of z) Pillbug || t) (and_same (is_kind (kind_of z) Mosquito) _ _ (λ m.
      any_same _ _ (λ d. ap is_pillbug (tops q b c k.like (step s.place d) (λ f. k.no_copy z (same_kind _ _ m) own s e (d, f)))) dirs))

  throws_same : (z : ℕ) → colour_of z ≡ side → (o : Option Spot) → spot_of b z ≡ o → throws_from b (Some x) z o ≡ throws_from c (Some y) z o
  throws_same z own None e = refl
  throws_same z own (Some s) e =
      let rests = awake_same z (apart_from x z k.first_own own) (apart_from y z k.second_own own) in
      let can = can_same z s own e in
      λ i. nat_eq (k.like.heights s.place i) 1 && (not (rests i) && can i)

  thrower_same : (z : ℕ) → colour_of z ≡ side → is_thrower b (Some x) z ≡ is_thrower c (Some y) z
  thrower_same z own = throws_same z own (spot_of b z) refl ∙ ap (throws_from c (Some y) z) (own_spot z own)

  -- a piece that rests is not thrown, and none that is not on the board
  resting : (d : Stacks) (w : ℕ) (o p : Option Spot) (r : Place) → throws_over d (Some w) o w p r ≡ false
  resting d w None p r = refl
  resting d w (Some s) None r = refl
  resting d w (Some s) (Some a) r = not_then (nat_eq (height_at d a.place) 1) (nat_eq w w) _ (eq-eqb w w refl)

  nowhere : (d : Stacks) (w z : ℕ) (o : Option Spot) (r : Place) → throws_over d (Some w) o z None r ≡ false
  nowhere d w z None r = refl
  nowhere d w z (Some s) r = refl

  thrown_from : (z : ℕ) → z ≢ x → z ≢ y → (r : Place) (o p : Option Spot) → spot_of b z ≡ p → throws_over b (Some x) o z p r ≡ throws_over c (Some y) o z p r
  thrown_from z one two r None p e = refl
  thrown_from z one two r (Some s) None e = refl
  thrown_from z one two r (Some s) (Some a) e =
      let lifted = lift_like q b c k.like z a e (sym (k.spots z one two) ∙ e) (elsewhere z one a e) in
      let rests = awake_same z one two in
      let cut = cut_same q b c k.like a.place in
      let up = free_same q (lift b z) (lift c z) lifted a.place s.place in
      let down = free_same q (lift b z) (lift c z) lifted s.place r in
      λ i. nat_eq (k.like.heights a.place i) 1 && (not (rests i) && (are_neighbours s.place a.place && (not (cut i) && (up i && (down i && (nat_eq (k.like.heights r i) 0 && not (is_place a.place r)))))))

  thrown_same : (w z : ℕ) (r : Place) → colour_of w ≡ side → is_thrown_by b (Some x) w z r ≡ is_thrown_by c (Some y) w z r
  thrown_same w z r own = elim (cases_eq z x) [
    | inl here ↦ subst (λ v. is_thrown_by b (Some x) w v r ≡ is_thrown_by c (Some y) w v r) (sym here)
        (resting b x (spot_of b w) (spot_of b x) r ∙ sym (ap (λ o. throws_over c (Some y) (spot_of c w) x o r) k.first_only ∙ nowhere c y x (spot_of c w) r))
    | inr one ↦ elim (cases_eq z y) [
      | inl here ↦ subst (λ v. is_thrown_by b (Some x) w v r ≡ is_thrown_by c (Some y) w v r) (sym here)
          (ap (λ o. throws_over b (Some x) (spot_of b w) y o r) k.second_only ∙ nowhere b x y (spot_of b w) r ∙ sym (resting c y (spot_of c w) (spot_of c y) r))
      | inr two ↦ thrown_from z one two r (spot_of b w) (spot_of b z) refl ∙ (λ i. throws_over c (Some y) (own_spot w own i) z (k.spots z one two i) r)
    ]
  ]

  throw_same : (t : GameType) (turn : ℕ) (z : ℕ) (r : Place)
      → is_throw (record { game_type = t; board = b; side = side; turn = turn; rest = Some x }) z r
      ≡ is_throw (record { game_type = t; board = c; side = side; turn = turn; rest = Some y }) z r
  throw_same t turn z r = any_same _ _ (λ w. and_same (is_colour (colour_of w) side) _ _ (λ e.
      let own = same_colour _ _ e in
      let thrower = thrower_same w own in
      let thrown = thrown_same w z r own in
      λ i. thrower i && thrown i)) all_pieces

  -- Legal moves

  legal_same : (t : GameType) (turn : ℕ) (z : ℕ) (r : Place)
      → is_legal_pair (record { game_type = t; board = b; side = side; turn = turn; rest = Some x }) z r
      ≡ is_legal_pair (record { game_type = t; board = c; side = side; turn = turn; rest = Some y }) z r
  legal_same t turn z r =
      let placed = placement_same t turn z r in
      let queen = in_play_own (queen_of side) (queen_colour side) in
      let walk = walk_same t turn z r in
      let throw = throw_same t turn z r in
      λ i. placed i || queen i && (walk i || throw i)

  pairs_same : (t : GameType) (turn : ℕ)
      → pairs (record { game_type = t; board = b; side = side; turn = turn; rest = Some x })
      ≡ pairs (record { game_type = t; board = c; side = side; turn = turn; rest = Some y })
  unfolding pairs
  pairs_same t turn =
      let places = near_same q b c k.like in
      λ i. flat_map (λ z. map (λ r. To z r) (filter (λ r. legal_same t turn z r i) (places i))) all_pieces

  over_same : (t : GameType) (turn : ℕ)
      → is_over (record { game_type = t; board = b; side = side; turn = turn; rest = Some x })
      ≡ is_over (record { game_type = t; board = c; side = side; turn = turn; rest = Some y })
  unfolding state
  over_same t turn =
      let white = surrounded_same White in
      let black = surrounded_same Black in
      λ i. is_over_state (state_from (white i) (black i) (nat_eq turn 1 && is_colour side White))

  pub all_same : (t : GameType) (turn : ℕ)
      → moves (record { game_type = t; board = b; side = side; turn = turn; rest = Some x })
      ≡ moves (record { game_type = t; board = c; side = side; turn = turn; rest = Some y })
  unfolding moves
  all_same t turn =
      let over = over_same t turn in
      let listed = pairs_same t turn in
      λ i. if over i then [] else or_pass (listed i)
