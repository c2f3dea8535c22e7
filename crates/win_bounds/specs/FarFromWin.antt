-- Positions in which the side to move cannot win, or cannot lose, with its next move. What is
-- around the other side's queen, or around its own, decides this.
--
-- A win surrounds the queen: all six places around her are occupied. A move puts one piece on one
-- place. So unless it moves the queen herself, it fills at most one more of the six. It is not the
-- turn of the queen's side. So she moves only if a pillbug or a mosquito of the side to move, which
-- is beside her, throws her. She comes down on an empty place beside that piece. There she is
-- surrounded only if that place was a hole in the hive, with all six places around it occupied.
use Rattle.std.specs.Prelude.{◌≡◌, ℕ, ◌≤◌, Bool, true, false, not, ◌&&◌, ◌||◌, nat_eq, nat_lt, length, Option, Some, None, IsTrue, ◌⊎◌}
use Rattle.std.specs.List.{list_any, filter}
use Rattle.hive_model.specs.declared.pieces.Colour.{Colour}
use Rattle.hive_model.specs.declared.pieces.Kind.TheVariants.{Mosquito, Pillbug}
use Rattle.hive_model.specs.declared.places.Place.{Place}
use Rattle.hive_model.specs.declared.places.Dir.{Dir}
use Rattle.hive_model.specs.declared.places.Spot.{Spot}
use Rattle.hive_model.specs.Pieces.{kind_of, colour_of, is_kind, is_colour, other_side, queen_of}
use Rattle.hive_model.specs.Places.{step, dirs, neighbours}
use Rattle.hive_model.specs.Boards.{Stacks, height_at, is_occupied, is_walled, top_at, spot_of}
use Rattle.hive_model.specs.Evaluation.{round_queen}
use Rattle.hive_model.specs.Positions.{Position}

-- an empty place with all six places around it occupied
pub record IsHole (b : Stacks) (q : Place) : Type 0 where
  pub empty : height_at b q ≡ 0
  pub round : (d : Dir) → IsTrue (is_occupied b (step q d))

-- a neighbour's top piece is a pillbug or a mosquito of this side, and has a hole beside it
pub record IsBesideThrower (b : Stacks) (c : Colour) (q : Place) : Type 0 where
  pub dir : Dir
  pub thrower : ℕ
  pub stands : top_at b (step q dir) ≡ Some thrower
  pub own : colour_of thrower ≡ c
  pub kind : (kind_of thrower ≡ Pillbug) ⊎ (kind_of thrower ≡ Mosquito)
  pub way : Dir
  pub hole : IsHole b (step (step q dir) way)

-- A side's queen is out of the mover's reach if she is in hand. On the board two conditions put her
-- out of reach. At most four of the six places around her are occupied, and no pillbug or mosquito
-- of the mover beside her has a hole beside it. (A queen in hand counts as having no occupied place
-- around her.)
pub record IsOutOfReach (b : Stacks) (mover c : Colour) : Type 0 where
  pub few : round_queen b c ≤ 4
  pub unthrown : (queen : Spot) → spot_of b (queen_of c) ≡ Some queen
      → ¬ IsBesideThrower b mover queen.place

-- the side to move is far from a win: the other side's queen is out of its reach
abbrev pub IsFarFromWin : Position → Type 0
IsFarFromWin p = IsOutOfReach p.board p.side (other_side p.side)

-- The side to move is far from a loss: its own queen is on the ground, in play, and out of its own
-- reach. (If she walks, she leaves an empty place beside her.)
pub record IsFarFromLoss (p : Position) : Type 0 where
  pub queen : Spot
  pub stands : spot_of p.board (queen_of p.side) ≡ Some queen
  pub ground : queen.level ≡ 0
  pub reach : IsOutOfReach p.board p.side p.side

-- The tests for these

abbrev pub is_hole : Stacks → Place → Bool
is_hole b q = nat_eq (height_at b q) 0 && is_walled b q

-- a neighbour is a hole
abbrev pub has_hole : Stacks → Place → Bool
has_hole b q = list_any (λ d. is_hole b (step q d)) dirs

-- the piece is a pillbug or a mosquito of this side
abbrev pub is_own_thrower : Colour → Option ℕ → Bool
is_own_thrower c None = false
is_own_thrower c (Some x) =
    is_colour (colour_of x) c && (is_kind (kind_of x) Pillbug || is_kind (kind_of x) Mosquito)

-- the top piece of the place is such a piece, and has a hole beside it
abbrev pub throws_in : Stacks → Colour → Place → Bool
throws_in b c q = is_own_thrower c (top_at b q) && has_hole b q

abbrev pub is_beside_thrower : Stacks → Colour → Place → Bool
is_beside_thrower b c q = list_any (λ d. throws_in b c (step q d)) dirs

-- At most four neighbours of the place are occupied, and none of them has a thrower on top. A
-- thrower here is a pillbug or a mosquito of this side with a hole beside it.
abbrev pub is_far_place : Stacks → Colour → Place → Bool
is_far_place b c q =
    nat_lt (length (filter (is_occupied b) (neighbours q))) 5 && not (is_beside_thrower b c q)

-- the same for a queen's place; a queen in hand is far
abbrev pub is_far_spot : Stacks → Colour → Option Spot → Bool
is_far_spot b c None = true
is_far_spot b c (Some s) = is_far_place b c s.place

-- the same for the side's own queen, if she is on the ground; in hand she is not far
abbrev pub is_home_spot : Stacks → Colour → Option Spot → Bool
is_home_spot b c None = false
is_home_spot b c (Some s) = nat_eq s.level 0 && is_far_place b c s.place

-- the side to move is far from a win
abbrev pub is_far_from_win : Position → Bool
is_far_from_win p = is_far_spot p.board p.side (spot_of p.board (queen_of (other_side p.side)))

-- the side to move is far from a loss
abbrev pub is_far_from_loss : Position → Bool
is_far_from_loss p = is_home_spot p.board p.side (spot_of p.board (queen_of p.side))
