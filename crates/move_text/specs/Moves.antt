-- Reading as functions that compute, and the moves that can be written.
use Rattle.std.specs.Prelude.{ℕ, List, length, Option, Some, None, Result, Ok, Err, not, if◌then◌else◌, Bool}
use Rattle.std.specs.List.{list_any}
use Rattle.hive_model.specs.declared.pieces.GameType.{GameType}
use Rattle.hive_model.specs.declared.places.Place.{Place}
use Rattle.hive_model.specs.declared.places.Dir.{Dir}
use Rattle.hive_model.specs.declared.places.Move.{Move}
use Rattle.hive_model.specs.declared.places.Move.TheVariants.{Pass, To}
use Rattle.hive_model.specs.declared.forms.Mark.{Mark}
use Rattle.hive_model.specs.declared.forms.Form.{Form}
use Rattle.hive_model.specs.declared.forms.Form.TheVariants.{Passes, Alone, Beside}
use Rattle.hive_model.specs.Pieces.{kind_of, has_kind, all_pieces}
use Rattle.hive_model.specs.Places.{step, origin, IsOnTheMap}
use Rattle.hive_model.specs.Boards.{Stacks, without, place_in, is_in_play}
use Rattle.hive_model.specs.Denotes.{place_by, Candidate}
use Rattle.move_text.specs.declared.faults.MoveFault.{MoveFault}
use Rattle.move_text.specs.declared.faults.MoveFault.TheVariants.{NotAMove, NoSuchPiece, NotInPlay}
use Rattle.move_text.specs.declared.progress.Naming.TheVariants.{Empty}
use Rattle.move_text.specs.declared.progress.Progress.TheVariants.{First}
use Rattle.move_text.specs.Scan.{scan}

-- no piece is in play
abbrev pub is_empty_board : Stacks → Bool
is_empty_board b = not (list_any (is_in_play b) all_pieces)

-- the move beside or on a reference, if the reference is in play
abbrev pub moved_beside : ℕ → Mark → ℕ → Option Place → Result Move MoveFault
moved_beside x mark y None = Err (NotInPlay y)
moved_beside x mark y (Some p) = Ok (To x (place_by p mark))

-- The move of a form. The moving piece must be of the game type. Then a piece alone requires an
-- empty board, and a reference must be on the board without the moving piece.
abbrev pub judge : GameType → Stacks → ℕ → Form → Result Move MoveFault
judge t b len Passes = Ok Pass
judge t b len (Alone x) =
    if has_kind t (kind_of x) then (if is_empty_board b then Ok (To x origin)
    else Err (NotAMove len)) else Err NoSuchPiece
judge t b len (Beside x mark y) =
    if has_kind t (kind_of x) then moved_beside x mark y (place_in (without b x) y)
    else Err NoSuchPiece

-- the same for what was read: a form, or the offset at which the text fails
abbrev pub judged : GameType → Stacks → ℕ → Result Form ℕ → Result Move MoveFault
judged t b len (Err offset) = Err (NotAMove offset)
judged t b len (Ok f) = judge t b len f

-- the move of a text
abbrev pub move_of : GameType → Stacks → List ℕ → Result Move MoveFault
move_of t b text = judged t b (length text) (scan (First Empty) text 0)

-- how a place is named by a reference in a direction from it
abbrev pub named_beside : Place → Mark × Dir → Candidate
named_beside q m = record { mark = m.0; place = step q m.1 }

-- no coordinate of the destination exceeds 9,500 in absolute value
abbrev pub IsMoveWithin : Move → Type 0
IsMoveWithin Pass = Unit {0}
IsMoveWithin (To x q) = IsOnTheMap q
