-- What the definitions of the rules amount to.
use Rattle.std.specs.Prelude.{◌≡◌, ◌≢◌, ℕ, List, [], ◌∷◌, None, IsTrue, ◌⊎◌, ◌↔◌}
use Rattle.std.specs.List.{filter, sum_by}
use Rattle.hive_model.specs.declared.pieces.Colour.{Colour}
use Rattle.hive_model.specs.declared.pieces.GameType.{GameType}
use Rattle.hive_model.specs.declared.places.Place.{Place}
use Rattle.hive_model.specs.declared.places.Move.{Move}
use Rattle.hive_model.specs.declared.places.Move.TheVariants.{Pass, To}
use Rattle.hive_model.specs.declared.places.State.TheVariants.{NotStarted, InProgress}
use Rattle.hive_model.specs.Lists.{IsOn}
use Rattle.hive_model.specs.Pieces.{all_pieces, has_kind, kind_of, queen_of}
use Rattle.hive_model.specs.Places.{origin, AreNeighbours}
use Rattle.hive_model.specs.Boards.{Stacks, spot_of, is_occupied, IsBoard}
use Rattle.hive_model.specs.Near.{near}
use Rattle.hive_model.specs.Positions.{Position, IsSound, opening}
use Rattle.hive_model.specs.Placement.{Placement}
use Rattle.hive_model.specs.Legal.{IsOver, moves}
use Rattle.hive_model.specs.Games.{replay, outcome}
use Rattle.hive_model.specs.Evaluation.{counted, free_weight}

-- a placement, or the pass if it is the only legal move
abbrev pub PlacesOrPasses : Position → Move → Type 0
PlacesOrPasses p Pass = moves p ≡ Pass ∷ []
PlacesOrPasses p (To x q) = Placement p x q

-- While the mover's queen is in hand, no piece is moved or thrown.
abbrev pub QueensComeFirst : Type 0
QueensComeFirst =
    (p : Position) → IsBoard p.board → spot_of p.board (queen_of p.side) ≡ None → (m : Move)
    → IsOn (moves p) m → PlacesOrPasses p m

-- The place is the origin, occupied, or a neighbour of an occupied place.
abbrev pub IsBesideOrOrigin : Stacks → Place → Type 0
IsBesideOrOrigin b q =
    (q ≡ origin) ⊎ ((p : Place) × IsTrue (is_occupied b p) × ((q ≡ p) ⊎ AreNeighbours p q))

-- The near places are exactly these.
abbrev pub NearPlacesAreBeside : Type 0
NearPlacesAreBeside =
    (b : Stacks) → IsBoard b → (q : Place) → IsOn (near b) q ↔ IsBesideOrOrigin b q

-- A game has not started exactly if no ply was played.
abbrev pub NothingPlayedIsNotStarted : Type 0
NothingPlayedIsNotStarted =
    (t : GameType) (ms : List Move) → (outcome t ms ≡ NotStarted) ↔ (ms ≡ [])

-- It is in progress exactly if some ply was played and no queen is surrounded.
abbrev pub PlayGoesOn : Type 0
PlayGoesOn =
    (t : GameType) (ms : List Move) → (outcome t ms ≡ InProgress)
    ↔ ((ms ≢ []) × (¬ IsOver (replay (opening t) ms)))

-- the pieces of a game type, in their order
abbrev pub pieces_of : GameType → List ℕ
pieces_of t = filter (λ x. has_kind t (kind_of x)) all_pieces

-- The sum of the weights of a side's free pieces, which the evaluation uses, is the sum over the
-- pieces of the game type.
abbrev pub TypesAreCounted : Type 0
TypesAreCounted =
    (p : Position) (c : Colour) → IsSound p
    → free_weight p.board p.rest c ≡ sum_by (counted p.board p.rest c) (pieces_of p.game_type)
