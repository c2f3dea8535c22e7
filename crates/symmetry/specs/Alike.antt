-- Positions that are alike: one is the other with its board rotated, mirrored and shifted.
use Rattle.std.specs.Prelude.{◌≡◌, ℕ, min, [], ◌∷◌}
use Rattle.std.specs.FinMap.Entries.{put as put_entry}
use Rattle.hive_model.specs.declared.places.Place.{Place}
use Rattle.hive_model.specs.declared.places.Move.{Move}
use Rattle.hive_model.specs.declared.places.Move.TheVariants.{Pass, To}
use Rattle.hive_model.specs.declared.places.State.{State}
use Rattle.hive_model.specs.declared.places.State.TheVariants.{NotStarted, InProgress, Draw, WhiteWins, BlackWins}
use Rattle.hive_model.specs.Places.{place_cmp, origin, IsWithin}
use Rattle.hive_model.specs.Boards.{Stacks, stack_at}
use Rattle.hive_model.specs.Positions.{Position}
use Rattle.symmetry.specs.Images.{moved_by}

-- The second board is the image of the first: each place has on its image what it has on the first
-- board.
abbrev pub IsImage : (Place → Place) → Stacks → Stacks → Type 0
IsImage f b c = (q : Place) → stack_at c (f q) ≡ stack_at b q

-- The image as a board: each entry is put at the image of its place.
abbrev pub board_by : (Place → Place) → Stacks → Stacks
board_by f [] = []
board_by f (e ∷ b) = put_entry place_cmp (f e.0) e.1 (board_by f b)

-- Two positions are alike if they have the same type, side, resting piece and turn, capped at 5.
-- The board of the second must be the image of the first by the symmetry and then the shift. If the
-- board is empty, the shift is zero.
pub record Alike (p r : Position) (s : ℕ) (t : Place) : Type 0 where
  pub game_type : r.game_type ≡ p.game_type
  pub side : r.side ≡ p.side
  pub rest : r.rest ≡ p.rest
  pub turn : min r.turn 5 ≡ min p.turn 5
  pub board : IsImage (moved_by s t) p.board r.board
  pub on_empty : p.board ≡ [] → t ≡ origin

-- The image of a move: the same piece goes to the image of the place.
abbrev pub move_by : ℕ → Place → Move → Move
move_by s t Pass = Pass
move_by s t (To x q) = To x (moved_by s t q)

-- The place of the move is in the plane or one step beyond its edge.
abbrev pub IsPlaced : Move → Type 0
IsPlaced Pass = Unit {0}
IsPlaced (To x q) = IsWithin 9001 q

-- the state, with a game that has not started counted as in progress
abbrev pub started_state : State → State
started_state NotStarted = InProgress
started_state InProgress = InProgress
started_state Draw = Draw
started_state WhiteWins = WhiteWins
started_state BlackWins = BlackWins
