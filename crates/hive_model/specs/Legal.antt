-- When a game is over, and which moves are legal.
use Rattle.std.specs.Prelude.{◌≡◌, ◌≢◌, ℕ, ◌+◌, Bool, true, false, not, ◌&&◌, ◌||◌, nat_eq, List, [], ◌∷◌, map, Option, Some, None, IsTrue, ◌⊎◌, if◌then◌else◌}
use Rattle.std.specs.List.{filter, flat_map}
use Rattle.std.specs.Ordering.{nat_cmp, ordering_then}
use Rattle.std.specs.declared.cmp.Ordering.{Ordering}
use Rattle.std.specs.declared.cmp.Ordering.TheVariants.{Less, Equal, Greater}
use Rattle.hive_model.specs.declared.pieces.Colour.{Colour}
use Rattle.hive_model.specs.declared.pieces.Colour.TheVariants.{White, Black}
use Rattle.hive_model.specs.declared.places.Place.{Place}
use Rattle.hive_model.specs.declared.places.Dir.{Dir}
use Rattle.hive_model.specs.declared.places.Spot.{Spot}
use Rattle.hive_model.specs.declared.places.Move.{Move}
use Rattle.hive_model.specs.declared.places.Move.TheVariants.{Pass, To}
use Rattle.hive_model.specs.declared.places.State.{State}
use Rattle.hive_model.specs.declared.places.State.TheVariants.{NotStarted, InProgress, Draw, WhiteWins, BlackWins}
use Rattle.hive_model.specs.Pieces.{kind_of, colour_of, is_colour, all_pieces, queen_of}
use Rattle.hive_model.specs.Places.{place_cmp, step}
use Rattle.hive_model.specs.Boards.{Stacks, height_at, is_occupied, is_walled, spot_of, is_in_play, is_top_spot, lift}
use Rattle.hive_model.specs.Hive.{IsCut, is_cut}
use Rattle.hive_model.specs.Near.{near}
use Rattle.hive_model.specs.Reach.{MovesAs, moves_as}
use Rattle.hive_model.specs.Positions.{Position, rests}
use Rattle.hive_model.specs.Placement.{Placement, is_placement}
use Rattle.hive_model.specs.Throws.{Throw, is_throw}

-- Results

-- A side is surrounded if its queen is in play and all six neighbours of her place are occupied.
pub record IsSurrounded (b : Stacks) (c : Colour) : Type 0 where
  pub spot : Spot
  pub stands : spot_of b (queen_of c) ≡ Some spot
  pub round : (d : Dir) → IsTrue (is_occupied b (step spot.place d))

-- The game is over if a queen is surrounded.
abbrev pub IsOver : Position → Type 0
IsOver p = IsSurrounded p.board White ⊎ IsSurrounded p.board Black

abbrev pub is_surrounded_at : Stacks → Option Spot → Bool
is_surrounded_at b None = false
is_surrounded_at b (Some s) = is_walled b s.place

abbrev pub is_surrounded : Stacks → Colour → Bool
is_surrounded b c = is_surrounded_at b (spot_of b (queen_of c))

-- If both queens are surrounded, the game is a draw. If one is, the other side wins. Otherwise the
-- game has not started if no ply was played, and else it is in progress.
abbrev pub state_from : Bool → Bool → Bool → State
state_from true true fresh = Draw
state_from false true fresh = WhiteWins
state_from true false fresh = BlackWins
state_from false false true = NotStarted
state_from false false false = InProgress

unfoldable pub state : Position → State
state p =
    state_from (is_surrounded p.board White) (is_surrounded p.board Black)
    (nat_eq p.turn 1 && is_colour p.side White)

abbrev pub is_over_state : State → Bool
is_over_state NotStarted = false
is_over_state InProgress = false
is_over_state Draw = true
is_over_state WhiteWins = true
is_over_state BlackWins = true

abbrev pub is_over : Position → Bool
is_over p = is_over_state (state p)

-- Legal moves

-- A piece of the mover that is on top, does not rest and does not stand on a cut place moves by the
-- rule of its kind.
pub record Walk (p : Position) (x : ℕ) (q : Place) : Type 0 where
  pub from : Spot
  pub own : colour_of x ≡ p.side
  pub stands : spot_of p.board x ≡ Some from
  pub on_top : from.level + 1 ≡ height_at p.board from.place
  pub awake : p.rest ≢ Some x
  pub not_cut : ¬ IsCut p.board from.place
  pub moves : MovesAs (kind_of x) (lift p.board x) from.place q

-- A legal pair is a placement or, once the mover's queen is in play, also a walk of one of its
-- pieces or a throw.
abbrev pub LegalPair : Position → ℕ → Place → Type 0
LegalPair p x q =
    Placement p x q ⊎ (IsTrue (is_in_play p.board (queen_of p.side)) × (Walk p x q ⊎ Throw p x q))

-- While the game is not over, each legal pair is a legal move. If there is no legal pair, the pass
-- is the one legal move.
abbrev pub IsLegal : Position → Move → Type 0
IsLegal p (To x q) = (¬ IsOver p) × LegalPair p x q
IsLegal p Pass = (¬ IsOver p) × ((x : ℕ) (q : Place) → ¬ LegalPair p x q)

-- The tests of these

abbrev pub walks_from : Position → ℕ → Option Spot → Place → Bool
walks_from p x None q = false
walks_from p x (Some s) q =
    is_top_spot p.board (Some s) && (not (rests p x)
    && (not (is_cut p.board s.place) && moves_as (kind_of x) (lift p.board x) s.place q))

abbrev pub is_walk : Position → ℕ → Place → Bool
is_walk p x q = is_colour (colour_of x) p.side && walks_from p x (spot_of p.board x) q

abbrev pub is_legal_pair : Position → ℕ → Place → Bool
is_legal_pair p x q =
    is_placement p x q || is_in_play p.board (queen_of p.side) && (is_walk p x q || is_throw p x q)

-- The list of legal moves

-- the legal pairs, by piece and then by place
unfoldable pub pairs : Position → List Move
pairs p = flat_map (λ x. map (λ q. To x q) (filter (is_legal_pair p x) (near p.board))) all_pieces

abbrev pub or_pass : List Move → List Move
or_pass [] = Pass ∷ []
or_pass (m ∷ ms) = m ∷ ms

-- The legal moves in order: each legal pair once, or the pass alone. The list is empty if the game
-- is over.
unfoldable pub moves : Position → List Move
moves p = if is_over p then [] else or_pass (pairs p)

-- the order of moves: by piece, then by q and r of the place
abbrev pub move_cmp : Move → Move → Ordering
move_cmp Pass Pass = Equal
move_cmp Pass (To y r) = Less
move_cmp (To x q) Pass = Greater
move_cmp (To x q) (To y r) = ordering_then (nat_cmp x y) (place_cmp q r)
