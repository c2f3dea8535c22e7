-- Which move a move text denotes, and the one text that is written for a move.
use Rattle.std.specs.Prelude.{◌≡◌, ℕ, ◌<◌, List, [], ◌∷◌, codes, Option, Some, None, ◌⊎◌}
use Rattle.hive_model.specs.declared.pieces.GameType.{GameType}
use Rattle.hive_model.specs.declared.places.Place.{Place}
use Rattle.hive_model.specs.declared.places.Dir.TheVariants.{E, NE, NW, W, SW, SE}
use Rattle.hive_model.specs.declared.places.Move.{Move}
use Rattle.hive_model.specs.declared.places.Move.TheVariants.{Pass, To}
use Rattle.hive_model.specs.declared.forms.Stroke.TheVariants.{Dash, Slash, Backslash}
use Rattle.hive_model.specs.declared.forms.Mark.{Mark}
use Rattle.hive_model.specs.declared.forms.Mark.TheVariants.{On, Before, After}
use Rattle.hive_model.specs.declared.forms.Form.{Form}
use Rattle.hive_model.specs.declared.forms.Form.TheVariants.{Passes, Alone, Beside}
use Rattle.hive_model.specs.Pieces.{OfType}
use Rattle.hive_model.specs.Places.{step, origin}
use Rattle.hive_model.specs.Boards.{Stacks, top_at, without, place_in}
use Rattle.hive_model.specs.Texts.{form_text}

-- `R-` is E of R, `-R` W, `R/` NE, `/R` SW, `\R` NW, `R\` SE
abbrev pub place_by : Place → Mark → Place
place_by p On = p
place_by p (After Dash) = step p E
place_by p (Before Dash) = step p W
place_by p (After Slash) = step p NE
place_by p (Before Slash) = step p SW
place_by p (Before Backslash) = step p NW
place_by p (After Backslash) = step p SE

-- A piece alone denotes its placement on the origin of an empty board.
pub record DenotesAlone (t : GameType) (b : Stacks) (text : List ℕ) (m : Move) : Type 0 where
  pub piece : ℕ
  pub is_piece : piece < 28
  pub of_type : OfType t piece
  pub text_is : text ≡ form_text (Alone piece)
  pub empty : b ≡ []
  pub goes : m ≡ To piece origin

-- A piece and a destination. The reference must be on the board without the piece that moves.
pub record DenotesBeside (t : GameType) (b : Stacks) (text : List ℕ) (m : Move) : Type 0 where
  pub piece : ℕ
  pub mark : Mark
  pub reference : ℕ
  pub place : Place
  pub is_piece : piece < 28
  pub is_reference : reference < 28
  pub of_type : OfType t piece
  pub text_is : text ≡ form_text (Beside piece mark reference)
  pub in_play : place_in (without b piece) reference ≡ Some place
  pub goes : m ≡ To piece (place_by place mark)

-- The text denotes the move. Either the text is `pass` and the move is the pass, or the text names
-- the piece that moves and its destination. References are looked up on the board without the
-- moving piece.
abbrev pub Denotes : GameType → Stacks → List ℕ → Move → Type 0
Denotes t b text m =
    ((text ≡ codes "pass") × (m ≡ Pass)) ⊎ (DenotesAlone t b text m ⊎ DenotesBeside t b text m)

-- The one text of a move. An occupied destination is written as its top piece. An empty one is
-- written by the top piece of its first occupied neighbour, in the order W, E, SW, NE, NW, SE. Both
-- are looked up on the board without the moving piece.

-- a way to name a destination: a mark, and the place of the reference that it needs
pub record Candidate : Type 0 where
  pub mark : Mark
  pub place : Place

abbrev pub candidates : Place → List Candidate
candidates q =
    record { mark = On; place = q }
    ∷ record { mark = After Dash; place = step q W }
    ∷ record { mark = Before Dash; place = step q E }
    ∷ record { mark = After Slash; place = step q SW }
    ∷ record { mark = Before Slash; place = step q NE }
    ∷ record { mark = After Backslash; place = step q NW }
    ∷ record { mark = Before Backslash; place = step q SE }
    ∷ []

abbrev pub by_top : ℕ → Mark → Option ℕ → Form → Form
by_top x mark None other = other
by_top x mark (Some y) other = Beside x mark y

abbrev pub first_named : Stacks → ℕ → List Candidate → Form
first_named c x [] = Alone x
first_named c x (p ∷ ps) = by_top x p.mark (top_at c p.place) (first_named c x ps)

-- The form that is written. The first placement has no reference: it is the piece alone.
abbrev pub form_of : Stacks → Move → Form
form_of b Pass = Passes
form_of b (To x q) = first_named (without b x) x (candidates q)

-- the written text of a move
abbrev pub text : Stacks → Move → List ℕ
text b m = form_text (form_of b m)
