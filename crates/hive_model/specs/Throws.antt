-- Throws: a pillbug, or a mosquito that touches one, lifts a neighbouring piece over itself to
-- another neighbouring place.
use Rattle.std.specs.Prelude.{◌≡◌, ◌≢◌, ℕ, Bool, false, not, ◌&&◌, ◌||◌, nat_eq, Option, Some, None, IsTrue, ◌⊎◌}
use Rattle.std.specs.List.{list_any}
use Rattle.hive_model.specs.declared.pieces.Kind.TheVariants.{Mosquito, Pillbug}
use Rattle.hive_model.specs.declared.places.Place.{Place}
use Rattle.hive_model.specs.declared.places.Dir.{Dir}
use Rattle.hive_model.specs.declared.places.Spot.{Spot}
use Rattle.hive_model.specs.Pieces.{kind_of, colour_of, is_kind, is_colour, is_in_set, all_pieces}
use Rattle.hive_model.specs.Places.{is_place, step, dirs, AreNeighbours}
use Rattle.hive_model.specs.Boards.{Stacks, height_at, top_at, spot_of, lift}
use Rattle.hive_model.specs.Hive.{IsCut, are_neighbours, is_cut}
use Rattle.hive_model.specs.Steps.{FreeStep, is_free}
use Rattle.hive_model.specs.Positions.{Position, is_piece}

-- a neighbour of the place has a pillbug on top
pub record BesidePillbug (b : Stacks) (t : Place) : Type 0 where
  pub dir : Dir
  pub other : ℕ
  pub stands : top_at b (step t dir) ≡ Some other
  pub pillbug : kind_of other ≡ Pillbug

-- A pillbug throws, and so does a mosquito that touches a pillbug on the whole board.
abbrev pub CanThrow : Stacks → ℕ → Place → Type 0
CanThrow b y t = (kind_of y ≡ Pillbug) ⊎ ((kind_of y ≡ Mosquito) × BesidePillbug b t)

-- A thrower on its place can throw, is alone there and does not rest. It may stand on a cut place.
pub record IsThrower (b : Stacks) (rest : Option ℕ) (y : ℕ) (t : Spot) : Type 0 where
  pub is_piece : IsTrue (is_in_set y)
  pub stands : spot_of b y ≡ Some t
  pub alone : height_at b t.place ≡ 1
  pub awake : rest ≢ Some y
  pub can : CanThrow b y t.place

-- A thrower on t throws a piece from a to q. The thrown piece may be of either colour. It is alone
-- on a neighbour of t that is not a cut place, and it does not rest. On the board without it,
-- neither the step up onto the thrower nor the step down is blocked. It lands on an empty place
-- other than its own.
pub record ThrowOver (b : Stacks) (rest : Option ℕ) (t : Place) (x : ℕ) (a : Spot)
    (q : Place) : Type 0 where
  pub stands : spot_of b x ≡ Some a
  pub alone : height_at b a.place ≡ 1
  pub awake : rest ≢ Some x
  pub beside : AreNeighbours t a.place
  pub not_cut : ¬ IsCut b a.place
  pub up : FreeStep (lift b x) a.place t
  pub down : FreeStep (lift b x) t q
  pub empty : height_at b q ≡ 0
  pub other : a.place ≢ q

-- A thrower of the side to move throws the piece to q.
pub record Throw (p : Position) (x : ℕ) (q : Place) : Type 0 where
  pub thrower : ℕ
  pub over : Spot
  pub from : Spot
  pub own : colour_of thrower ≡ p.side
  pub is_thrower : IsThrower p.board p.rest thrower over
  pub throws : ThrowOver p.board p.rest over.place x from q

-- The tests of these

abbrev pub is_pillbug : Option ℕ → Bool
is_pillbug None = false
is_pillbug (Some x) = is_kind (kind_of x) Pillbug

abbrev pub can_throw : Stacks → ℕ → Place → Bool
can_throw b y t =
    is_kind (kind_of y) Pillbug || is_kind (kind_of y) Mosquito
    && list_any (λ d. is_pillbug (top_at b (step t d))) dirs

abbrev pub throws_from : Stacks → Option ℕ → ℕ → Option Spot → Bool
throws_from b rest y None = false
throws_from b rest y (Some t) =
    nat_eq (height_at b t.place) 1 && (not (is_piece y rest) && can_throw b y t.place)

-- the piece is a thrower
abbrev pub is_thrower : Stacks → Option ℕ → ℕ → Bool
is_thrower b rest y = throws_from b rest y (spot_of b y)

abbrev pub throws_over : Stacks → Option ℕ → Option Spot → ℕ → Option Spot → Place → Bool
throws_over b rest None x other q = false
throws_over b rest (Some t) x None q = false
throws_over b rest (Some t) x (Some a) q =
    nat_eq (height_at b a.place) 1 && (not (is_piece x rest)
    && (are_neighbours t.place a.place && (not (is_cut b a.place)
    && (is_free (lift b x) a.place t.place && (is_free (lift b x) t.place q
    && (nat_eq (height_at b q) 0 && not (is_place a.place q)))))))

-- the piece y throws the piece x to q, if y is a thrower
abbrev pub is_thrown_by : Stacks → Option ℕ → ℕ → ℕ → Place → Bool
is_thrown_by b rest y x q = throws_over b rest (spot_of b y) x (spot_of b x) q

abbrev pub is_throw : Position → ℕ → Place → Bool
is_throw p x q =
    list_any (λ y. is_colour (colour_of y) p.side
    && (is_thrower p.board p.rest y && is_thrown_by p.board p.rest y x q)) all_pieces
