-- Whose turn it is, and where a piece may go.
use Rattle.std.specs.Prelude.{◌≡◌, ◌≢◌, ℕ, ◌≤◌, List, length, Option, Some, IsTrue, ◌⊎◌}
use Rattle.hive_model.specs.declared.pieces.Colour.{Colour}
use Rattle.hive_model.specs.declared.pieces.GameType.{GameType}
use Rattle.hive_model.specs.declared.places.Place.{Place}
use Rattle.hive_model.specs.declared.places.Spot.{Spot}
use Rattle.hive_model.specs.Lists.{IsOn, Rises}
use Rattle.hive_model.specs.Pieces.{kind_of, piece_of, queen_of}
use Rattle.hive_model.specs.Places.{place_cmp}
use Rattle.hive_model.specs.Boards.{Stacks, spot_of, is_in_play, lift}
use Rattle.hive_model.specs.Near.{near}
use Rattle.hive_model.specs.Reach.{MovesAs}
use Rattle.hive_model.specs.Positions.{Position}
use Rattle.hive_model.specs.Throws.{IsThrower, ThrowOver, Throw}
use Rattle.hive_model.specs.Legal.{Walk}
use Rattle.hive_model.specs.declared.pieces.Kind.TheVariants.{Mosquito, Pillbug}
use Rattle.one_hive.specs.Visits.{IsSet}
use Rattle.pillbug_throws.specs.Throwing.{ThrowsFrom, StandsLoose}
use Rattle.legal_moves.specs.declared.turns.Turn.{Turn}
use Rattle.legal_moves.specs.declared.turns.Throwers.{Throwers}

-- a game of this type in which this side is to move on this board, in its turn of this number, and
-- this piece rests, if any
abbrev pub position_at : GameType → Stacks → Colour → ℕ → Option ℕ → Position
position_at t b side number rest =
    record { game_type = t; board = b; side = side; turn = number; rest = rest }

abbrev pub position_of : Stacks → Turn → Position
position_of b t = position_at t.game_type b t.side t.number t.rest

-- the piece moves by its kind's rule from where it stands
abbrev pub Goes : Stacks → ℕ → Place → Type 0
Goes b x q = (from : Spot) × (spot_of b x ≡ Some from) × MovesAs (kind_of x) (lift b x) from.place q

-- this piece throws that one
abbrev pub ThrownBy : Stacks → Option ℕ → ℕ → ℕ → Place → Type 0
ThrownBy b rest y x q =
    (t : Spot) × IsThrower b rest y t × ((a : Spot) × ThrowOver b rest t.place x a q)

-- this piece can lift that one over itself
abbrev pub CanLift : Stacks → Option ℕ → ℕ → ℕ → Type 0
CanLift b rest y x = (t : Spot) × IsThrower b rest y t × StandsLoose b rest t.place x

-- the pillbug or the mosquito of the side to move can lift the piece
abbrev pub IsThrowable : Position → ℕ → Type 0
IsThrowable p x =
    CanLift p.board p.rest (piece_of p.side Pillbug 0) x
    ⊎ CanLift p.board p.rest (piece_of p.side Mosquito 0) x

-- these are the spots from which the pillbug and the mosquito of the side to move may throw, and
-- the pieces that they can lift are marked
pub record AreThrowers (p : Position) (t : Throwers) : Type 0 where
  pub pillbug : ThrowsFrom p.board p.rest (piece_of p.side Pillbug 0) t.pillbug
  pub mosquito : ThrowsFrom p.board p.rest (piece_of p.side Mosquito 0) t.mosquito
  pub lifted : (x : ℕ) → IsThrowable p x → IsSet t.beside x

-- a piece of the board is moved or thrown, which takes the side's queen in play
abbrev pub IsMoved : Position → ℕ → Place → Type 0
IsMoved p x q = IsTrue (is_in_play p.board (queen_of p.side)) × (Walk p x q ⊎ Throw p x q)

-- a place near the hive, other than the one on which the piece stands
abbrev pub IsGoal : Stacks → ℕ → Place → Type 0
IsGoal b x q = (s : Spot) × (spot_of b x ≡ Some s) × IsOn (near b) q × (s.place ≢ q)

-- such places in order, each once
pub record AreGoals (b : Stacks) (x : ℕ) (places : List Place) : Type 0 where
  pub in_order : Rises place_cmp places
  pub goals : (q : Place) → IsOn places q → IsGoal b x q

-- no list in order of places from these two is longer than a list of places can be
abbrev pub HaveRoom : List Place → List Place → Type 0
HaveRoom xs ys =
    (zs : List Place) → Rises place_cmp zs → ((q : Place) → IsOn zs q → IsOn xs q ⊎ IsOn ys q)
    → length zs ≤ 196
