-- The evaluation of a position for its side to move, without a search.
use Rattle.std.specs.Prelude.{◌≡◌, ◌≢◌, ℕ, ◌+◌, ℤ, pos, ◌+ℤ◌, ◌-ℤ◌, ◌*ℤ◌, Bool, false, not, ◌&&◌, length, Option, Some, None, if◌then◌else◌}
use Rattle.std.specs.List.{filter, sum_by}
use Rattle.hive_model.specs.declared.pieces.Colour.{Colour}
use Rattle.hive_model.specs.declared.pieces.Kind.{Kind}
use Rattle.hive_model.specs.declared.pieces.Kind.TheVariants.{Queen, Spider, Beetle, Grasshopper, Ant, Mosquito, Ladybug, Pillbug}
use Rattle.hive_model.specs.declared.places.Spot.{Spot}
use Rattle.hive_model.specs.Pieces.{kind_of, colour_of, is_colour, other_side, all_pieces, mask_of_pieces, queen_of}
use Rattle.hive_model.specs.Places.{neighbours}
use Rattle.hive_model.specs.Boards.{Stacks, height_at, is_occupied, spot_of, is_top_spot}
use Rattle.hive_model.specs.Hive.{IsCut, is_cut}
use Rattle.hive_model.specs.Positions.{Position, is_piece}

-- the weight of a free piece, by its kind
abbrev pub weight_of : Kind → ℕ
weight_of Queen = 4
weight_of Spider = 4
weight_of Beetle = 8
weight_of Grasshopper = 6
weight_of Ant = 10
weight_of Mosquito = 10
weight_of Ladybug = 8
weight_of Pillbug = 8

-- A piece is free if it is on top, does not rest and does not stand on a cut place.
pub record IsFreePiece (b : Stacks) (rest : Option ℕ) (x : ℕ) : Type 0 where
  pub spot : Spot
  pub stands : spot_of b x ≡ Some spot
  pub on_top : spot.level + 1 ≡ height_at b spot.place
  pub awake : rest ≢ Some x
  pub not_cut : ¬ IsCut b spot.place

-- the test of it
abbrev pub is_uncut_top : Stacks → Option Spot → Bool
is_uncut_top b None = false
is_uncut_top b (Some s) = is_top_spot b (Some s) && not (is_cut b s.place)

abbrev pub is_free_piece : Stacks → Option ℕ → ℕ → Bool
is_free_piece b rest x = not (is_piece x rest) && is_uncut_top b (spot_of b x)

-- the free pieces, as a number with one bit a piece
abbrev pub free_pieces : Stacks → Option ℕ → ℕ
free_pieces b rest = mask_of_pieces (is_free_piece b rest)

-- What a piece counts for a side: its weight if it is a free piece of that side, and 0 otherwise.
abbrev pub counted : Stacks → Option ℕ → Colour → ℕ → ℕ
counted b rest c x =
    if is_colour (colour_of x) c && is_free_piece b rest x then weight_of (kind_of x) else 0

-- the sum of the weights of a side's free pieces
abbrev pub free_weight : Stacks → Option ℕ → Colour → ℕ
free_weight b rest c = sum_by (counted b rest c) all_pieces

abbrev pub occupied_round : Stacks → Option Spot → ℕ
occupied_round b None = 0
occupied_round b (Some s) = length (filter (is_occupied b) (neighbours s.place))

-- The number of occupied neighbours of a side's queen. It is 0 if she is in hand.
abbrev pub round_queen : Stacks → Colour → ℕ
round_queen b c = occupied_round b (spot_of b (queen_of c))

-- The evaluation for a side. Each occupied neighbour of the other side's queen counts 40, and each
-- of its own queen -40. The weights of its own free pieces are added, and those of the other side's
-- are subtracted. The sum is over all 28 pieces: a piece that the game type does not have is never
-- on the board.
unfoldable pub evaluation : Stacks → Option ℕ → Colour → ℤ
evaluation b rest side =
    pos 40 *ℤ (pos (round_queen b (other_side side)) -ℤ pos (round_queen b side))
    +ℤ (pos (free_weight b rest side) -ℤ pos (free_weight b rest (other_side side)))

-- The evaluation of a position is that for its side to move.
abbrev pub eval : Position → ℤ
eval p = evaluation p.board p.rest p.side
