-- Placements after which the other side has the same legal moves.
use Rattle.std.specs.Prelude.{◌≡◌, ◌≢◌, ℕ, List, length, Option, None, Some, slice_get}
use Rattle.hive_model.specs.declared.pieces.Kind.TheVariants.{Queen, Mosquito}
use Rattle.hive_model.specs.declared.places.Place.{Place}
use Rattle.hive_model.specs.declared.places.Move.TheVariants.{To}
use Rattle.hive_model.specs.Boards.{IsBoard, spot_of, place_in}
use Rattle.hive_model.specs.Games.{after}
use Rattle.hive_model.specs.Legal.{moves}
use Rattle.hive_model.specs.Lists.{IsOn}
use Rattle.hive_model.specs.Pieces.{kind_of, other_side, piece_of}
use Rattle.hive_model.specs.Places.{AreNeighbours}
use Rattle.hive_model.specs.Positions.{Position}
use Rattle.plain_search.specs.declared.replies.Counted.{Counted}

-- the place of the mosquito of the side that is not to move, if it is on the board
abbrev pub their_mosquito : Position → Option Place
their_mosquito p = place_in p.board (piece_of (other_side p.side) Mosquito 0)

-- The piece is in hand and not a queen. The place is not beside the mosquito of the other side,
-- which may move as a piece that it touches.
pub record IsPlainPlacement (p : Position) (x : ℕ) (q : Place) : Type 0 where
  pub in_hand : spot_of p.board x ≡ None
  pub no_queen : kind_of x ≢ Queen
  pub untouched : (r : Place) → their_mosquito p ≡ Some r → ¬ AreNeighbours r q

-- Whichever of two such pieces is placed there, the other side has the same list of legal moves.
abbrev pub LikePlacementsHaveTheSameReplies : Type 0
LikePlacementsHaveTheSameReplies =
    (p : Position) → IsBoard p.board → (x y : ℕ) (q : Place) → IsOn (moves p) (To x q)
    → IsOn (moves p) (To y q) → IsPlainPlacement p x q → IsPlainPlacement p y q
    → moves (after p (To x q)) ≡ moves (after p (To y q))

-- Plain placements on the place have this number of replies, whichever piece is placed.
abbrev pub HasReplies : Position → Place → ℕ → Type 0
HasReplies p q n = (x : ℕ) → IsOn (moves p) (To x q) → IsPlainPlacement p x q
    → length (moves (after p (To x q))) ≡ n

-- Each entry of the list has the number of replies to plain placements on its place.
abbrev pub AreCounted : Position → List Counted → Type 0
AreCounted p es = (i : ℕ) (e : Counted) → slice_get es i ≡ Some e → HasReplies p e.place e.replies
