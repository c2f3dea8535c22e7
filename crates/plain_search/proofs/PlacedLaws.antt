-- Boards after placements of like pieces, and what the other side may do then.
use Rattle.std.proofs.Common.{◌≡◌, ◌≢◌, ℕ, ◌+◌, ◌<◌, Bool, true, false, not, ◌||◌, cond, List, [], ◌∷◌, ◌++◌, inl, inr, refl, sym, ◌∙◌, ap, subst, if◌then◌else◌}
use Rattle.std.specs.Prelude.{Option, Some, None, option_map, is_some, nat_eq, slice_get}
use Rattle.std.specs.List.{position, list_all}
use Rattle.std.proofs.lemmas.Bool.{eqb-true, eq-eqb, false_from_ne_true, cases_eq, lt-ltb, ltb-true}
use Rattle.std.proofs.lemmas.List.{nil_from_length}
use Rattle.hive_model.specs.declared.pieces.Colour.{Colour}
use Rattle.hive_model.specs.declared.pieces.Colour.TheVariants.{White, Black}
use Rattle.hive_model.specs.declared.pieces.Kind.{Kind}
use Rattle.hive_model.specs.declared.pieces.Kind.TheVariants.{Mosquito, Pillbug}
use Rattle.hive_model.specs.declared.places.Place.{Place}
use Rattle.hive_model.specs.declared.places.Spot.{Spot}
use Rattle.hive_model.specs.declared.places.Move.TheVariants.{To}
use Rattle.hive_model.specs.Lists.{IsOn}
use Rattle.hive_model.specs.Pieces.{kind_of, colour_of, is_kind, is_colour, other_side, piece_of, all_pieces}
use Rattle.hive_model.specs.Boards.{Stacks, stack_at, height_at, spot_of, spot_among, spot_here, places_of, put, without_at, IsBoard}
use Rattle.hive_model.specs.Positions.{Position}
use Rattle.hive_model.specs.Placement.{Placement, has_colour}
use Rattle.hive_model.specs.Legal.{moves}
use Rattle.hive_model.specs.Games.{after}
use Rattle.hive_model.proofs.PlaceLemmas.{is_place_itself}
use Rattle.hive_model.proofs.BoardLemmas.{stack_at-put, spot_of_stands, stands_spot_of, stands_on, put_stands}
use Rattle.hive_model.proofs.PlacementLaws.{from_has_colour}
use Rattle.hive_model.proofs.PieceLaws.{from_same_kind, on_pieces}
use Rattle.hive_model.proofs.RuleLaws.{all_at}
use Rattle.hive_model.proofs.MoveLaws.{moves_legal}
use Rattle.plain_search.specs.Replies.{IsPlainPlacement, LikePlacementsHaveTheSameReplies}
use Rattle.plain_search.proofs.LikeBoards.{put_like, spot_same}
use Rattle.plain_search.proofs.LikePositions.{ArePlaced, all_same, not_other}

-- a legal move of a piece in hand is a placement
pub is_placed : (p : Position) → IsBoard p.board → (x : ℕ) (q : Place) → IsOn (moves p) (To x q) → spot_of p.board x ≡ None → Placement p x q
is_placed p is x q on hand = elim (moves_legal p is (To x q) on).1 [
  | inl placed ↦ placed
  | inr (queen, moved) ↦ elim moved [
    | inl walk ↦ let wrong : Some walk.from ≡ None = sym walk.stands ∙ hand in absurd (cc)
    | inr throw ↦ let wrong : Some throw.from ≡ None = sym throw.throws.stands ∙ hand in absurd (cc)
  ]
]

twice_other : (c : Colour) → other_side (other_side c) ≡ c
twice_other White = refl
twice_other Black = refl

-- a side has one mosquito
pub the_one : (k : Kind) → list_all (λ w. not (is_kind (kind_of w) k) || nat_eq w (piece_of (colour_of w) k 0)) all_pieces ≡ true → (z : ℕ) → z < 28 → kind_of z ≡ k → z ≡ piece_of (colour_of z) k 0
the_one k all z small kind =
    eqb-true _ _ (then_so (is_kind (kind_of z) k) _ (all_at (λ w. not (is_kind (kind_of w) k) || nat_eq w (piece_of (colour_of w) k 0)) all_pieces z all (on_pieces z small)) (from_same_kind _ _ kind))
  where
    then_so : (t u : Bool) → (not t || u) ≡ true → t ≡ true → u ≡ true
    then_so true u h e = h
    then_so false u h e = let wrong : false ≡ true = e in absurd (cc)

pub the_mosquito : (z : ℕ) → z < 28 → kind_of z ≡ Mosquito → z ≡ piece_of (colour_of z) Mosquito 0
the_mosquito = the_one Mosquito refl

pub the_pillbug : (z : ℕ) → z < 28 → kind_of z ≡ Pillbug → z ≡ piece_of (colour_of z) Pillbug 0
the_pillbug = the_one Pillbug refl

-- a piece that is alone on a place is found there

or_here : (p : Place) (o : Option ℕ) (s : Option Spot) → is_some s ≡ true → is_some (spot_here p o s) ≡ true
or_here p None s h = h
or_here p (Some level) s h = refl

among : (b : Stacks) (q : Place) (x : ℕ) → stack_at b q ≡ x ∷ [] → (ps : List Place) → IsOn ps q → is_some (spot_among b ps x) ≡ true
among b q x h [] on = absurd on
among b q x h (p ∷ ps) on = elim on [
  | inl same ↦
      let here : position (nat_eq x) (stack_at b p) ≡ Some 0 =
      ap (λ r. position (nat_eq x) (stack_at b r)) same ∙ ap (position (nat_eq x)) h ∙ ap (λ t. position (λ w. t) (x ∷ [])) (eq-eqb x x refl) in
      ap (λ o. is_some (spot_here p o (spot_among b ps x))) here
  | inr later ↦ or_here p (position (nat_eq x) (stack_at b p)) (spot_among b ps x) (among b q x h ps later)
]

-- One piece on an empty place

module _ (d : Stacks) (is : IsBoard d) (q : Place) (empty : height_at d q ≡ 0) where
  pub alone : (x : ℕ) → stack_at (put d x q) q ≡ x ∷ []
  alone x =
      stack_at-put d x q q
      ∙ ap (λ t. cond t (stack_at d q ++ x ∷ []) (stack_at d q)) (is_place_itself q)
      ∙ ap (λ xs. xs ++ x ∷ []) (nil_from_length (stack_at d q) empty)

  pub stays : (x z : ℕ) (s : Spot) → z ≢ x → spot_of (put d x q) z ≡ Some s → spot_of d z ≡ Some s
  stays x z s apart e = elim (put_stands d x q z s.place s.level (spot_of_stands (put d x q) z s e)) [
    | inl old ↦ stands_spot_of d is z s.place s.level old
    | inr new ↦ absurd (apart new.0)
  ]

  pub still_off : (x z : ℕ) → z ≢ x → spot_of d z ≡ None → spot_of (put d x q) z ≡ None
  still_off x z apart none = elim (spot_of (put d x q) z) as (λ o. spot_of (put d x q) z ≡ o → o ≡ None) [
    | None ↦ λ _. refl
    | Some s ↦ λ e. let wrong : None ≡ Some s = sym none ∙ stays x z s apart e in absurd (cc)
  ] refl

  pub in_play : (x : ℕ) → is_some (spot_of (put d x q) x) ≡ true
  in_play x = among (put d x q) q x (alone x) (places_of (put d x q)) (stands_on (put d x q) x q 0 (ap (λ xs. slice_get xs 0) (alone x)))

  pub shows : (x : ℕ) → x < 28 → has_colour (put d x q) (colour_of x) ≡ true
  shows x small = from_has_colour (put d x q) (colour_of x) (record { piece = x; is_piece = lt-ltb x 28 small; colour = refl; in_play = in_play x })

  not_here : (x z : ℕ) → z ≢ x → position (nat_eq z) (x ∷ []) ≡ None
  not_here x z apart = ap (λ t. position (λ w. t) (x ∷ [])) (false_from_ne_true _ (λ e. apart (eqb-true z x e)))

  pub spots : (x y z : ℕ) → z ≢ x → z ≢ y → spot_of (put d x q) z ≡ spot_of (put d y q) z
  spots x y z one two = spot_same q (put d x q) (put d y q) (put_like d q x y) z
      (ap (position (nat_eq z)) (alone x) ∙ not_here x z one ∙ sym (ap (position (nat_eq z)) (alone y) ∙ not_here y z two))

-- the position after a placement
placed : Position → ℕ → Place → Position
placed p x q = record {
  game_type = p.game_type;
  board = put p.board x q;
  side = other_side p.side;
  turn = p.turn + (if is_colour p.side Black then 1 else 0);
  rest = Some x;
}

after_placed : (p : Position) (x : ℕ) (q : Place) → spot_of p.board x ≡ None → after p (To x q) ≡ placed p x q
unfolding after placed
after_placed p x q hand = λ i. record {
  game_type = p.game_type;
  board = put (without_at p.board (hand i)) x q;
  side = other_side p.side;
  turn = p.turn + (if is_colour p.side Black then 1 else 0);
  rest = Some x;
}

-- Two like pieces

module _ (p : Position) (is : IsBoard p.board) (x y : ℕ) (q : Place) (one : IsPlainPlacement p x q) (two : IsPlainPlacement p y q) (first : Placement p x q) (second : Placement p y q) (apart : x ≢ y) where
  are_placed : ArePlaced (other_side p.side) q x y (put p.board x q) (put p.board y q)
  are_placed = record {
    like = put_like p.board q x y;
    first = alone p.board is q first.place.empty x;
    second = alone p.board is q first.place.empty y;
    first_own = first.own ∙ sym (twice_other p.side);
    second_own = second.own ∙ sym (twice_other p.side);
    first_plain = one.no_queen;
    second_plain = two.no_queen;
    first_only = still_off p.board is q first.place.empty y x apart one.in_hand;
    second_only = still_off p.board is q first.place.empty x y (λ e. apart (sym e)) two.in_hand;
    first_shows = subst (λ d. has_colour (put p.board x q) d ≡ true) (first.own ∙ sym (twice_other p.side)) (shows p.board is q first.place.empty x (ltb-true _ _ first.is_piece));
    second_shows = subst (λ d. has_colour (put p.board y q) d ≡ true) (second.own ∙ sym (twice_other p.side)) (shows p.board is q first.place.empty y (ltb-true _ _ second.is_piece));
    spots = spots p.board is q first.place.empty x y;
    no_copy = λ z kind own s e.
        let other : z ≢ x = (λ f. not_other p.side (sym first.own ∙ ap colour_of (sym f) ∙ own)) in
        let old = stays p.board is q first.place.empty x z s other e in
        let small = is.pieces s.place s.level z (spot_of_stands p.board z s old) in
        let same : z ≡ piece_of (other_side p.side) Mosquito 0 = the_mosquito z small kind ∙ ap (λ d. piece_of d Mosquito 0) own in
        one.untouched s.place (ap (option_map (λ (t : Spot). t.place)) (subst (λ v. spot_of p.board v ≡ Some s) same old));
  }

  like_placed : moves (placed p x q) ≡ moves (placed p y q)
  unfolding placed
  like_placed = all_same (other_side p.side) q x y (put p.board x q) (put p.board y q) are_placed p.game_type (p.turn + (if is_colour p.side Black then 1 else 0))

pub same_replies : LikePlacementsHaveTheSameReplies
same_replies p is x y q on also one two = elim (cases_eq x y) [
  | inl same ↦ ap (λ z. moves (after p (To z q))) same
  | inr apart ↦
      ap moves (after_placed p x q one.in_hand)
      ∙ like_placed p is x y q one two (is_placed p is x q on one.in_hand) (is_placed p is y q also two.in_hand) apart
      ∙ sym (ap moves (after_placed p y q two.in_hand))
]
