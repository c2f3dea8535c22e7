-- Placements: which piece may be brought into play, and on which places.
use Rattle.std.specs.Prelude.{◌≡◌, ◌≢◌, ℕ, ◌≤◌, ◌<◌, Bool, false, not, ◌&&◌, ◌||◌, nat_eq, nat_lt, Option, Some, None, IsTrue, if◌then◌else◌}
use Rattle.std.specs.List.{list_any, find}
use Rattle.hive_model.specs.declared.pieces.Colour.{Colour}
use Rattle.hive_model.specs.declared.pieces.GameType.{GameType}
use Rattle.hive_model.specs.declared.pieces.Kind.{Kind}
use Rattle.hive_model.specs.declared.pieces.Kind.TheVariants.{Queen}
use Rattle.hive_model.specs.declared.places.Place.{Place}
use Rattle.hive_model.specs.declared.places.Dir.{Dir}
use Rattle.hive_model.specs.Pieces.{kind_of, colour_of, is_kind, is_colour, is_like, is_in_set, other_side, all_pieces, queen_of, has_kind, OfType}
use Rattle.hive_model.specs.Places.{is_place, step, dirs, origin}
use Rattle.hive_model.specs.Boards.{Stacks, height_at, is_occupied, top_at, spot_of, is_in_play}
use Rattle.hive_model.specs.Positions.{Position}

-- A piece is in hand if it is of the game type and not on the board.
pub record IsInHand (t : GameType) (b : Stacks) (x : ℕ) : Type 0 where
  pub of_type : OfType t x
  pub off : spot_of b x ≡ None

-- It is in hand, and no piece of its kind and colour with a smaller number is.
pub record IsLeastInHand (t : GameType) (b : Stacks) (x : ℕ) : Type 0 where
  pub in_hand : IsInHand t b x
  pub least : (y : ℕ) → y < x → kind_of y ≡ kind_of x → colour_of y ≡ colour_of x → ¬ IsInHand t b y

-- a piece of this colour is on the board
pub record HasColour (b : Stacks) (c : Colour) : Type 0 where
  pub piece : ℕ
  pub is_piece : IsTrue (is_in_set piece)
  pub colour : colour_of piece ≡ c
  pub in_play : IsTrue (is_in_play b piece)

-- a neighbour of the place has a top piece of this colour
pub record Touches (b : Stacks) (c : Colour) (q : Place) : Type 0 where
  pub dir : Dir
  pub other : ℕ
  pub stands : top_at b (step q dir) ≡ Some other
  pub colour : colour_of other ≡ c

-- a neighbour of the place is occupied
abbrev pub IsBeside : Stacks → Place → Type 0
IsBeside b q = (d : Dir) × IsTrue (is_occupied b (step q d))

-- A side may place only on an empty place. On an empty board that is the origin. If only the other
-- side has pieces on the board, it is a place beside an occupied one. Otherwise the place touches a
-- top piece of the side's colour and none of the other's.
pub record MayPlace (b : Stacks) (c : Colour) (q : Place) : Type 0 where
  pub empty : height_at b q ≡ 0
  pub on_empty : ¬ HasColour b c → ¬ HasColour b (other_side c) → q ≡ origin
  pub on_others : ¬ HasColour b c → HasColour b (other_side c) → IsBeside b q
  pub on_own : HasColour b c → Touches b c q × (¬ Touches b (other_side c) q)

-- The piece is the mover's, and the least of its kind in hand, and the side may place on this
-- place. On its first turn a side may not place its queen. From its fourth turn on, while its queen
-- is in hand, it may place only her.
pub record Placement (p : Position) (x : ℕ) (q : Place) : Type 0 where
  pub is_piece : IsTrue (is_in_set x)
  pub own : colour_of x ≡ p.side
  pub next : IsLeastInHand p.game_type p.board x
  pub place : MayPlace p.board p.side q
  pub no_first_queen : p.turn ≡ 1 → kind_of x ≢ Queen
  pub queen_by_fourth : 4 ≤ p.turn → spot_of p.board (queen_of p.side) ≡ None → kind_of x ≡ Queen

-- The tests of these

abbrev pub has_colour : Stacks → Colour → Bool
has_colour b c = list_any (λ x. is_colour (colour_of x) c && is_in_play b x) all_pieces

abbrev pub is_in_hand : GameType → Stacks → ℕ → Bool
is_in_hand t b x = has_kind t (kind_of x) && not (is_in_play b x)

abbrev pub is_least_in_hand : GameType → Stacks → ℕ → Bool
is_least_in_hand t b x =
    is_in_hand t b x && not (list_any (λ y. nat_lt y x
    && (is_like x y && is_in_hand t b y)) all_pieces)

-- the least piece in hand of a kind and colour, or none if none of them is in hand
abbrev pub next_of : GameType → Stacks → Colour → Kind → Option ℕ
next_of t b c k =
    find (λ x. is_kind (kind_of x) k && (is_colour (colour_of x) c && is_in_hand t b x)) all_pieces

abbrev pub shows_colour : Option ℕ → Colour → Bool
shows_colour None c = false
shows_colour (Some x) c = is_colour (colour_of x) c

abbrev pub touches : Stacks → Colour → Place → Bool
touches b c q = list_any (λ d. shows_colour (top_at b (step q d)) c) dirs

abbrev pub is_beside : Stacks → Place → Bool
is_beside b q = list_any (λ d. is_occupied b (step q d)) dirs

abbrev pub may_place : Stacks → Colour → Place → Bool
may_place b c q = not (is_occupied b q) && (
    if has_colour b c then touches b c q && not (touches b (other_side c) q)
    else if has_colour b (other_side c) then is_beside b q
    else is_place q origin)

abbrev pub is_placement : Position → ℕ → Place → Bool
is_placement p x q =
    is_colour (colour_of x) p.side && (is_least_in_hand p.game_type p.board x
    && (may_place p.board p.side q
    && (not (is_kind (kind_of x) Queen && nat_eq p.turn 1)
    && (is_kind (kind_of x) Queen || (nat_lt p.turn 4 || is_in_play p.board (queen_of p.side))))))
