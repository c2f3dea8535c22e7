-- Quiet replies: a piece that is placed on a quiet place does not change the evaluation of the
-- board.
use Rattle.std.specs.Prelude.{◌≡◌, ◌≢◌, ℕ, false, Option, Some, None, pos, ◌+ℤ◌, ◌≤ℤ◌}
use Rattle.hive_model.specs.declared.pieces.Colour.{Colour}
use Rattle.hive_model.specs.declared.pieces.Colour.TheVariants.{White, Black}
use Rattle.hive_model.specs.declared.pieces.Kind.TheVariants.{Queen}
use Rattle.hive_model.specs.declared.places.Dir.{Dir}
use Rattle.hive_model.specs.declared.places.Place.{Place}
use Rattle.hive_model.specs.declared.places.Spot.{Spot}
use Rattle.hive_model.specs.Pieces.{kind_of, queen_of}
use Rattle.hive_model.specs.Places.{IsWithin, step}
use Rattle.hive_model.specs.Boards.{Stacks, IsBoard, is_occupied, spot_of}
use Rattle.hive_model.specs.Neighbours.{ring, ring_mask, weight}
use Rattle.hive_model.specs.Positions.{Position}
use Rattle.hive_model.specs.Placement.{MayPlace, Placement}
use Rattle.hive_model.specs.Evaluation.{weight_of}
use Rattle.hive_model.specs.Legal.{is_over}
use Rattle.hive_model.specs.Minimax.{value}
use Rattle.arcs.specs.Arcs.{OneArc}
use Rattle.cut_keeper.specs.Rings.{is_suspect}

-- The occupied neighbours of the place are two that touch: they form one arc, of more than one
-- place, and none of them lies between others.
pub record IsBesidePair (b : Stacks) (q : Place) : Type 0 where
  pub arc : OneArc (is_occupied b) q
  pub more : (d : Dir) → ring_mask (ring (is_occupied b) q) ≢ weight d
  pub ends : (d : Dir) → is_suspect (ring (is_occupied b) q) d ≡ false

-- The side's queen, if she is in play, is not on a neighbour of the place.
abbrev pub IsApart : Stacks → Colour → Place → Type 0
IsApart b c q = (s : Spot) → spot_of b (queen_of c) ≡ Some s → (d : Dir) → step s.place d ≢ q

-- The side may place on this place, which is beside two places that touch and beside no queen.
pub record IsQuiet (b : Stacks) (c : Colour) (q : Place) : Type 0 where
  pub within : IsWithin 9000 q
  pub may : MayPlace b c q
  pub pair : IsBesidePair b q
  pub white : IsApart b White q
  pub black : IsApart b Black q

-- The side to move may place a piece other than its queen on a quiet place.
pub record HasQuietReply (p : Position) : Type 0 where
  pub piece : ℕ
  pub place : Place
  pub brought : Placement p piece place
  pub no_queen : kind_of piece ≢ Queen
  pub quiet : IsQuiet p.board p.side place

-- the weight of the piece that rests, once it is free and no longer rests
abbrev pub rest_weight : Option ℕ → ℕ
rest_weight None = 0
rest_weight (Some x) = weight_of (kind_of x)

-- If the side to move has a quiet reply, one more ply costs it at most the weight of the resting
-- piece. After the reply, the board is worth to it what it was before, except for the piece that
-- rested.
abbrev pub QuietRepliesHold : Type 0
QuietRepliesHold =
    (p : Position) → IsBoard p.board → is_over p ≡ false → HasQuietReply p
    → value p 0 ≤ℤ (value p 1 +ℤ pos (rest_weight p.rest))
