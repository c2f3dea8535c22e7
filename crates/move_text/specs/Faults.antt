-- When a text is refused.
use Rattle.std.specs.Prelude.{◌≡◌, ◌≢◌, ℕ, ◌<◌, [], List, length, Option, Some, None, ◌⊎◌, false}
use Rattle.hive_model.specs.declared.pieces.GameType.{GameType}
use Rattle.hive_model.specs.declared.forms.Mark.{Mark}
use Rattle.hive_model.specs.declared.forms.Form.{Form}
use Rattle.hive_model.specs.declared.forms.Form.TheVariants.{Passes, Alone, Beside}
use Rattle.hive_model.specs.Pieces.{kind_of, has_kind, OfType}
use Rattle.hive_model.specs.Boards.{Stacks, without, place_in}
use Rattle.hive_model.specs.Texts.{form_text, IsForm, IsNoText}
use Rattle.move_text.specs.declared.faults.MoveFault.{MoveFault}
use Rattle.move_text.specs.declared.faults.MoveFault.TheVariants.{NotAMove, NoSuchPiece, NotInPlay}

-- the piece that moves
abbrev pub mover : Form → Option ℕ
mover Passes = None
mover (Alone x) = Some x
mover (Beside x mark y) = Some x

-- The text has a form, and the moving piece is not of the game type.
pub record IsOfNoPiece (t : GameType) (text : List ℕ) : Type 0 where
  pub form : Form
  pub piece : ℕ
  pub is : IsForm form
  pub text_is : text ≡ form_text form
  pub moves : mover form ≡ Some piece
  pub not_of_type : has_kind t (kind_of piece) ≡ false

-- a piece alone, on a board that is not empty
pub record IsAloneAmong (t : GameType) (b : Stacks) (text : List ℕ) : Type 0 where
  pub piece : ℕ
  pub is_piece : piece < 28
  pub of_type : OfType t piece
  pub text_is : text ≡ form_text (Alone piece)
  pub not_empty : b ≢ []

-- The reference is not on the board without the moving piece.
pub record IsBesideNone (t : GameType) (b : Stacks) (text : List ℕ) (reference : ℕ) : Type 0 where
  pub piece : ℕ
  pub mark : Mark
  pub is_piece : piece < 28
  pub is_reference : reference < 28
  pub of_type : OfType t piece
  pub text_is : text ≡ form_text (Beside piece mark reference)
  pub not_in_play : place_in (without b piece) reference ≡ None

-- Each fault holds exactly if no earlier one does, in this order: the text is not a move text, or
-- the moving piece is not of the type. Then a piece is alone in the text but the board is not
-- empty, or the reference is not on the board.
abbrev pub Refuses : GameType → Stacks → List ℕ → MoveFault → Type 0
Refuses t b text (NotAMove offset) =
    IsNoText text offset ⊎ (IsAloneAmong t b text × (offset ≡ length text))
Refuses t b text NoSuchPiece = IsOfNoPiece t text
Refuses t b text (NotInPlay y) = IsBesideNone t b text y
