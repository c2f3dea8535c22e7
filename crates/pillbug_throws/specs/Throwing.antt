-- The parts of a throw.
use Rattle.std.specs.Prelude.{◌≡◌, ◌≢◌, ℕ, ℤ, pos, ◌+ℤ◌, ◌≤ℤ◌, Option, Some, None}
use Rattle.hive_model.specs.declared.places.Place.{Place}
use Rattle.hive_model.specs.declared.places.Spot.{Spot}
use Rattle.hive_model.specs.Places.{AreNeighbours}
use Rattle.hive_model.specs.Boards.{Stacks, height_at, spot_of}
use Rattle.hive_model.specs.Hive.{IsCut}
use Rattle.hive_model.specs.Steps.{FreeStep}
use Rattle.hive_model.specs.Throws.{IsThrower, ThrowOver}

-- two coordinates differ by at most 1
abbrev pub DifferByOne : ℤ → ℤ → Type 0
DifferByOne z y = (z ≤ℤ (y +ℤ pos 1)) × (y ≤ℤ (z +ℤ pos 1))

-- two places differ by at most 1 in each coordinate
abbrev pub AreClose : Place → Place → Type 0
AreClose p q = DifferByOne p.q q.q × DifferByOne p.r q.r

-- the piece is where it can be thrown from over t: it is alone on a neighbour of t that is no cut
-- place, and does not rest
pub record IsLoose (b : Stacks) (rest : Option ℕ) (t : Place) (x : ℕ) (a : Place) : Type 0 where
  pub alone : height_at b a ≡ 1
  pub awake : rest ≢ Some x
  pub beside : AreNeighbours t a
  pub not_cut : ¬ IsCut b a

-- the piece stands somewhere where it is loose
abbrev pub StandsLoose : Stacks → Option ℕ → Place → ℕ → Type 0
StandsLoose b rest t x = (a : Spot) × (spot_of b x ≡ Some a) × IsLoose b rest t x a.place

-- where the piece may throw from, and nowhere where it may not throw
abbrev pub ThrowsFrom : Stacks → Option ℕ → ℕ → Option Spot → Type 0
ThrowsFrom b rest y None = (t : Spot) → ¬ IsThrower b rest y t
ThrowsFrom b rest y (Some t) = IsThrower b rest y t

-- the piece from a comes down from t on q: on the board c without it the step down is not blocked,
-- and q is an empty place of the whole board
pub record ComesDown (b c : Stacks) (t a q : Place) : Type 0 where
  pub down : FreeStep c t q
  pub empty : height_at b q ≡ 0
  pub other : a ≢ q

-- the thrower throws the piece to q
abbrev pub ThrowsTo : Stacks → Option ℕ → ℕ → ℕ → Place → Type 0
ThrowsTo b rest y x q =
    (t : Spot) × (a : Spot) × (spot_of b y ≡ Some t) × ThrowOver b rest t.place x a q
