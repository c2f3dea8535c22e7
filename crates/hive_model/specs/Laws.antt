-- The laws of the definitions. Each rule is defined twice: as a relation in the rule's own words,
-- and as a test that computes. The laws say that the test holds exactly if the relation does, and
-- which members the lists of places and moves have.
use Rattle.std.specs.Prelude.{◌≡◌, ℕ, ◌≤◌, ◌<◌, Bool, List, [], ◌∷◌, length, Option, Some, None, IsTrue, ◌↔◌}
use Rattle.std.specs.declared.cmp.Ordering.{Ordering}
use Rattle.hive_model.specs.declared.pieces.Colour.{Colour}
use Rattle.hive_model.specs.declared.pieces.GameType.{GameType}
use Rattle.hive_model.specs.declared.pieces.Kind.{Kind}
use Rattle.hive_model.specs.declared.places.Place.{Place}
use Rattle.hive_model.specs.declared.places.Spot.{Spot}
use Rattle.hive_model.specs.declared.places.Move.{Move}
use Rattle.hive_model.specs.declared.places.Move.TheVariants.{Pass, To}
use Rattle.hive_model.specs.Lists.{IsOn, IsPath, flood, Rises}
use Rattle.hive_model.specs.Places.{place_cmp, AreNeighbours, IsWithin}
use Rattle.hive_model.specs.Boards.{Stacks, spot_of, is_on_top, put, lift, IsBoard}
use Rattle.hive_model.specs.Hive.{OneHive, IsSeparating, IsCut, are_neighbours, is_one, is_separating, is_cut}
use Rattle.hive_model.specs.Steps.{GroundStep, ClimbingStep, FreeStep, is_ground_step, is_climbing_step, is_free}
use Rattle.hive_model.specs.Near.{near}
use Rattle.hive_model.specs.Reach.{Reach, Copies, MovesAs, reaches, copies, moves_as}
use Rattle.hive_model.specs.Positions.{Position}
use Rattle.hive_model.specs.Placement.{IsInHand, IsLeastInHand, MayPlace, Placement, is_in_hand, is_least_in_hand, next_of, may_place, is_placement}
use Rattle.hive_model.specs.Pieces.{kind_of, colour_of}
use Rattle.hive_model.specs.Throws.{IsThrower, ThrowOver, Throw, is_thrower, throws_over, is_throw}
use Rattle.hive_model.specs.Histories.{is_listed}
use Rattle.hive_model.specs.Legal.{IsSurrounded, IsOver, Walk, LegalPair, IsLegal, is_surrounded, is_over, is_walk, is_legal_pair, move_cmp, moves}

-- Neighbours and the hive

-- The test of neighbours holds exactly if a direction leads from one place to the other.
abbrev pub NeighboursAreTested : Type 0
NeighboursAreTested = (p q : Place) → IsTrue (are_neighbours p q) ↔ AreNeighbours p q

-- The test of one hive holds exactly if any two occupied places are joined by a walk over occupied
-- places.
abbrev pub OneHiveIsTested : Type 0
OneHiveIsTested = (b : Stacks) → IsBoard b → IsTrue (is_one b) ↔ OneHive b

-- The test of a separating place holds exactly if the place is occupied and the board without its
-- pieces is not one hive.
abbrev pub SeparatingIsTested : Type 0
SeparatingIsTested =
    (b : Stacks) → IsBoard b → (p : Place) → IsTrue (is_separating b p) ↔ IsSeparating b p

-- The test of a cut place holds exactly if the place is separating and of height 1.
abbrev pub CutIsTested : Type 0
CutIsTested = (b : Stacks) → IsBoard b → (p : Place) → IsTrue (is_cut b p) ↔ IsCut b p

-- Steps

-- A ground step goes from an empty place to an empty neighbour and has exactly one occupied common
-- neighbour.
abbrev pub GroundStepIsTested : Type 0
GroundStepIsTested = (b : Stacks) (p q : Place) → IsTrue (is_ground_step b p q) ↔ GroundStep b p q

-- A climbing step is not blocked, and at least one of its ends is occupied.
abbrev pub ClimbingStepIsTested : Type 0
ClimbingStepIsTested =
    (b : Stacks) (p q : Place) → IsTrue (is_climbing_step b p q) ↔ ClimbingStep b p q

-- A step is free if its two common neighbours do not both exceed the heights of its ends.
abbrev pub FreeStepIsTested : Type 0
FreeStepIsTested = (b : Stacks) (p q : Place) → IsTrue (is_free b p q) ↔ FreeStep b p q

-- Moves of bugs

-- By the test, a bug of any kind reaches the places that the rule of its kind leads to. The rule
-- gives a list of places for an ant's or a spider's way. For a grasshopper it gives a direction and
-- a length, and for a ladybug the two places that it crosses.
abbrev pub ReachIsTested : Type 0
ReachIsTested = (k : Kind) (b : Stacks) (p q : Place) → IsTrue (reaches k b p q) ↔ Reach k b p q

-- A mosquito on a stack moves as a beetle. On the ground it moves as a neighbouring top piece that
-- is not a mosquito.
abbrev pub CopiesAreTested : Type 0
CopiesAreTested = (b : Stacks) (p q : Place) → IsTrue (copies b p q) ↔ Copies b p q

-- every kind, the mosquito included
abbrev pub MovesAsIsTested : Type 0
MovesAsIsTested =
    (k : Kind) (b : Stacks) (p q : Place) → IsTrue (moves_as k b p q) ↔ MovesAs k b p q

-- Placements

-- A piece is in hand if it is of the game type and not on the board.
abbrev pub InHandIsTested : Type 0
InHandIsTested = (t : GameType) (b : Stacks) (x : ℕ) → IsTrue (is_in_hand t b x) ↔ IsInHand t b x

-- It is the least in hand if no piece of its kind and colour with a smaller number is in hand.
abbrev pub LeastInHandIsTested : Type 0
LeastInHandIsTested =
    (t : GameType) (b : Stacks) (x : ℕ) → x < 28
    → IsTrue (is_least_in_hand t b x) ↔ IsLeastInHand t b x

-- The next piece of a kind and colour is the least of them in hand.
abbrev pub NextIsLeast : Type 0
NextIsLeast = (t : GameType) (b : Stacks) (c : Colour) (k : Kind) (x : ℕ)
    → (next_of t b c k ≡ Some x) ↔ ((x < 28) × (kind_of x ≡ k) × (colour_of x ≡ c)
    × IsLeastInHand t b x)

-- There is no next piece exactly if none of them is in hand.
abbrev pub NextMayBeNone : Type 0
NextMayBeNone = (t : GameType) (b : Stacks) (c : Colour) (k : Kind)
    → (next_of t b c k ≡ None) ↔ ((x : ℕ) → x < 28 → kind_of x ≡ k → colour_of x ≡ c
    → ¬ IsInHand t b x)

-- on which places a side may place
abbrev pub MayPlaceIsTested : Type 0
MayPlaceIsTested = (b : Stacks) (c : Colour) (q : Place) → IsTrue (may_place b c q) ↔ MayPlace b c q

-- which piece may be placed, and on which place
abbrev pub PlacementIsTested : Type 0
PlacementIsTested =
    (p : Position) (x : ℕ) (q : Place) → x < 28 → IsTrue (is_placement p x q) ↔ Placement p x q

-- Throws

-- The test of a thrower holds exactly if the piece is a thrower on the place that it is on.
abbrev pub ThrowerIsTested : Type 0
ThrowerIsTested =
    (b : Stacks) (rest : Option ℕ) (y : ℕ) → y < 28
    → IsTrue (is_thrower b rest y) ↔ ((t : Spot) × IsThrower b rest y t)

-- The test of a throw over a place holds exactly if the piece is thrown from the place that it is
-- on.
abbrev pub ThrowOverIsTested : Type 0
ThrowOverIsTested =
    (b : Stacks) → IsBoard b → (rest : Option ℕ) (t : Spot) (x : ℕ) (q : Place)
    → IsTrue (throws_over b rest (Some t) x (spot_of b x) q)
    ↔ ((a : Spot) × ThrowOver b rest t.place x a q)

-- some thrower of the side to move throws the piece there
abbrev pub ThrowIsTested : Type 0
ThrowIsTested =
    (p : Position) → IsBoard p.board → (x : ℕ) (q : Place) → IsTrue (is_throw p x q) ↔ Throw p x q

-- Moves of the side to move, and the end of a game

-- A piece of the mover that is on top, does not rest and does not stand on a cut place moves by the
-- rule of its kind.
abbrev pub WalkIsTested : Type 0
WalkIsTested =
    (p : Position) → IsBoard p.board → (x : ℕ) (q : Place) → IsTrue (is_walk p x q) ↔ Walk p x q

-- A side is surrounded if its queen is in play and all six neighbours of her place are occupied.
abbrev pub SurroundedIsTested : Type 0
SurroundedIsTested = (b : Stacks) (c : Colour) → IsTrue (is_surrounded b c) ↔ IsSurrounded b c

-- The game is over exactly if a queen is surrounded.
abbrev pub OverIsTested : Type 0
OverIsTested = (p : Position) → IsTrue (is_over p) ↔ IsOver p

-- A legal pair is a placement or, once the mover's queen is in play, also a walk or a throw.
abbrev pub LegalPairIsTested : Type 0
LegalPairIsTested =
    (p : Position) → IsBoard p.board → (x : ℕ) (q : Place) → x < 28
    → IsTrue (is_legal_pair p x q) ↔ LegalPair p x q

-- Every legal pair has one of the 28 pieces, and its place is the origin, an occupied place or a
-- neighbour of one.
abbrev pub LegalPairIsNear : Type 0
LegalPairIsNear =
    (p : Position) → IsBoard p.board → (x : ℕ) (q : Place) → LegalPair p x q
    → (x < 28) × IsOn (near p.board) q

-- The list of legal moves

-- A move is on the list exactly if it is legal.
abbrev pub MovesAreLegal : Type 0
MovesAreLegal = (p : Position) → IsBoard p.board → (m : Move) → IsOn (moves p) m ↔ IsLegal p m

-- The list is ordered by piece and then by place, with each move once.
abbrev pub MovesRise : Type 0
MovesRise = (p : Position) → Rises move_cmp (moves p)

-- If the pass is on the list, it is the whole list.
abbrev pub PassIsAlone : Type 0
PassIsAlone = (p : Position) → IsOn (moves p) Pass → moves p ≡ Pass ∷ []

-- The list is empty exactly if the game is over.
abbrev pub OverHasNoMoves : Type 0
OverHasNoMoves = (p : Position) → (moves p ≡ []) ↔ IsOver p

-- Each move on the list that is not the pass moves one of the 28 pieces.
abbrev pub MovesHavePieces : Type 0
MovesHavePieces = (p : Position) (x : ℕ) (q : Place) → IsOn (moves p) (To x q) → x < 28

-- The test of a listed move holds exactly if the move is on the list.
abbrev pub ListedMovesAreTested : Type 0
ListedMovesAreTested = (p : Position) (m : Move) → IsTrue (is_listed p m) ↔ IsOn (moves p) m

-- Boards

-- Putting a piece that is not on the board on a place of the plane keeps a board a board.
abbrev pub PutKeepsBoards : Type 0
PutKeepsBoards =
    (b : Stacks) (x : ℕ) (p : Place) → IsBoard b → x < 28 → spot_of b x ≡ None → IsWithin 9000 p
    → IsBoard (put b x p)

-- Lifting a piece that is on top keeps a board a board.
abbrev pub LiftKeepsBoards : Type 0
LiftKeepsBoards = (b : Stacks) (x : ℕ) → IsBoard b → IsTrue (is_on_top b x) → IsBoard (lift b x)

-- Ways

-- a step that the test allows, to a place of the list
abbrev pub StepTo : (Place → Place → Bool) → List Place → Place → Place → Type 0
StepTo s places p q = IsTrue (s p q) × IsOn places q

-- A flood finds exactly the places that a way of one step or more over the list leads to. It needs
-- at least as many rounds as the list has places.
abbrev pub FloodsFindWays : Type 0
FloodsFindWays =
    (s : Place → Place → Bool) (places : List Place) (rounds : ℕ) → length places ≤ rounds
    → (p q : Place)
    → IsOn (flood s rounds (p ∷ []) places) q
    ↔ ((first : Place) × (way : List Place) × IsPath (StepTo s places) p (first ∷ way) q)

-- Lists in order

-- Two lists in strict order with the same members are equal.
abbrev pub IsSettledByMembers : {X : Type 0} → (X → X → Ordering) → Type 0
IsSettledByMembers {X} R =
    (xs ys : List X) → Rises R xs → Rises R ys → ((x : X) → IsOn xs x ↔ IsOn ys x) → xs ≡ ys

-- of places, by q and then by r
abbrev pub PlacesAreSettled : Type 0
PlacesAreSettled = IsSettledByMembers place_cmp

-- of moves, by piece and then by place
abbrev pub MovesAreSettled : Type 0
MovesAreSettled = IsSettledByMembers move_cmp
