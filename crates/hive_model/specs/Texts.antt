-- The texts of pieces and moves. A move text has one of finitely many forms.
use Rattle.std.specs.Prelude.{◌≡◌, ℕ, ◌+◌, ◌<◌, ◌≤◌, nat_eq, List, [], ◌∷◌, ◌++◌, length, take, codes, if◌then◌else◌}
use Rattle.hive_model.specs.declared.pieces.Colour.{Colour}
use Rattle.hive_model.specs.declared.pieces.Colour.TheVariants.{White, Black}
use Rattle.hive_model.specs.declared.pieces.Kind.{Kind}
use Rattle.hive_model.specs.declared.pieces.Kind.TheVariants.{Queen, Spider, Beetle, Grasshopper, Ant, Mosquito, Ladybug, Pillbug}
use Rattle.hive_model.specs.Pieces.{colour_of, kind_of, number_of}
use Rattle.hive_model.specs.declared.forms.Stroke.{Stroke}
use Rattle.hive_model.specs.declared.forms.Stroke.TheVariants.{Dash, Slash, Backslash}
use Rattle.hive_model.specs.declared.forms.Mark.{Mark}
use Rattle.hive_model.specs.declared.forms.Mark.TheVariants.{On, Before, After}
use Rattle.hive_model.specs.declared.forms.Form.{Form}
use Rattle.hive_model.specs.declared.forms.Form.TheVariants.{Passes, Alone, Beside}

-- `w` or `b`
abbrev pub colour_code : Colour → ℕ
colour_code White = 119
colour_code Black = 98

-- the letters Q S B G A M L P
abbrev pub kind_code : Kind → ℕ
kind_code Queen = 81
kind_code Spider = 83
kind_code Beetle = 66
kind_code Grasshopper = 71
kind_code Ant = 65
kind_code Mosquito = 77
kind_code Ladybug = 76
kind_code Pillbug = 80

-- a digit, if the kind has more than one piece a side
abbrev pub number_code : ℕ → List ℕ
number_code n = if nat_eq n 0 then [] else (48 + n) ∷ []

abbrev pub name_of : Colour → Kind → ℕ → List ℕ
name_of c k n = colour_code c ∷ (kind_code k ∷ number_code n)

abbrev pub piece_text : ℕ → List ℕ
piece_text x = name_of (colour_of x) (kind_of x) (number_of x)

-- `-`, `/` and `\`
abbrev pub stroke_code : Stroke → ℕ
stroke_code Dash = 45
stroke_code Slash = 47
stroke_code Backslash = 92

-- a reference, alone or with a stroke before or after it
abbrev pub destination : Mark → List ℕ → List ℕ
destination On name = name
destination (Before s) name = stroke_code s ∷ name
destination (After s) name = name ++ stroke_code s ∷ []

abbrev pub form_text : Form → List ℕ
form_text Passes = codes "pass"
form_text (Alone x) = piece_text x
form_text (Beside x mark y) = piece_text x ++ 32 ∷ destination mark (piece_text y)

-- the form's pieces are among the 28
abbrev pub IsForm : Form → Type 0
IsForm Passes = Unit {0}
IsForm (Alone x) = x < 28
IsForm (Beside x mark y) = (x < 28) × (y < 28)

-- some move text begins with these bytes
pub record Begins (bytes : List ℕ) : Type 0 where
  pub form : Form
  pub is : IsForm form
  pub rest : List ℕ
  pub text : form_text form ≡ bytes ++ rest

-- The text is not a move text. The offset is the least number such that no move text begins with
-- that many bytes of the text and one more. If the whole text is a proper prefix of a move text,
-- the offset is the length.
pub record IsNoText (text : List ℕ) (offset : ℕ) : Type 0 where
  pub none : (f : Form) → IsForm f → ¬ (text ≡ form_text f)
  pub within : offset ≤ length text
  pub begins : Begins (take offset text)
  pub stops : offset < length text → ¬ Begins (take (offset + 1) text)
