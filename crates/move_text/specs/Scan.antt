-- Reading a move text byte by byte: the states, and their steps.
use Rattle.std.specs.Prelude.{ℕ, ◌+◌, ◌-◌, Bool, ◌&&◌, nat_eq, nat_lt, nat_le, List, [], ◌∷◌, Option, Some, None, Result, Err, if◌then◌else◌}
use Rattle.std.specs.Option.{ok_or}
use Rattle.hive_model.specs.declared.pieces.Colour.{Colour}
use Rattle.hive_model.specs.declared.pieces.Colour.TheVariants.{White, Black}
use Rattle.hive_model.specs.declared.pieces.Kind.{Kind}
use Rattle.hive_model.specs.declared.pieces.Kind.TheVariants.{Queen, Spider, Beetle, Grasshopper, Ant, Mosquito, Ladybug, Pillbug}
use Rattle.hive_model.specs.Pieces.{piece_of, most_of}
use Rattle.hive_model.specs.Texts.{colour_code, kind_code, stroke_code}
use Rattle.move_text.specs.Tables.{coded_by}
use Rattle.hive_model.specs.declared.forms.Stroke.{Stroke}
use Rattle.hive_model.specs.declared.forms.Stroke.TheVariants.{Dash, Slash, Backslash}
use Rattle.hive_model.specs.declared.forms.Mark.{Mark}
use Rattle.hive_model.specs.declared.forms.Mark.TheVariants.{On, Before, After}
use Rattle.hive_model.specs.declared.forms.Form.{Form}
use Rattle.hive_model.specs.declared.forms.Form.TheVariants.{Passes, Alone, Beside}
use Rattle.move_text.specs.declared.progress.Naming.{Naming}
use Rattle.move_text.specs.declared.progress.Naming.TheVariants.{Empty, Side, Kinded, Named}
use Rattle.move_text.specs.declared.progress.Progress.{Progress}
use Rattle.move_text.specs.declared.progress.Progress.TheVariants.{AtP, AtPa, AtPas, AtPass, First, Second, Marked}

abbrev pub colours : List Colour
colours = White ∷ Black ∷ []

abbrev pub kinds : List Kind
kinds = Queen ∷ Spider ∷ Beetle ∷ Grasshopper ∷ Ant ∷ Mosquito ∷ Ladybug ∷ Pillbug ∷ []

abbrev pub strokes : List Stroke
strokes = Dash ∷ Slash ∷ Backslash ∷ []

-- what a byte stands for: a colour, a kind or a stroke
abbrev pub colour_at : ℕ → Option Colour
colour_at = coded_by colour_code colours

abbrev pub kind_at : ℕ → Option Kind
kind_at = coded_by kind_code kinds

abbrev pub stroke_at : ℕ → Option Stroke
stroke_at = coded_by stroke_code strokes

abbrev pub sided : Option Colour → Option Naming
sided None = None
sided (Some c) = Some (Side c)

-- The one piece of a kind without numbers. For other kinds the number is still to come.
abbrev pub with_kind : Colour → Kind → Naming
with_kind c k = if nat_eq (most_of k) 0 then Named (piece_of c k 0) else Kinded c k

abbrev pub kinded : Colour → Option Kind → Option Naming
kinded c None = None
kinded c (Some k) = Some (with_kind c k)

-- The byte is the digit of one of the kind's numbers.
abbrev pub is_number : Kind → ℕ → Bool
is_number k b = nat_lt 48 b && nat_le (b - 48) (most_of k)

-- the piece of this kind whose number is this digit
abbrev pub with_number : Colour → Kind → ℕ → Option Naming
with_number c k b = if is_number k b then Some (Named (piece_of c k (b - 48))) else None

-- what is read of a name after one more byte
abbrev pub naming_with : Naming → ℕ → Option Naming
naming_with Empty b = sided (colour_at b)
naming_with (Side c) b = kinded c (kind_at b)
naming_with (Kinded c k) b = with_number c k b
naming_with (Named x) b = None

-- the byte does not continue the first name
abbrev pub after_first : Naming → ℕ → Option Progress
after_first Empty b = if nat_eq b 112 then Some AtP else None
after_first (Side c) b = None
after_first (Kinded c k) b = None
after_first (Named x) b = if nat_eq b 32 then Some (Second x None Empty) else None

abbrev pub on_first : Option Naming → Naming → ℕ → Option Progress
on_first (Some n) old b = Some (First n)
on_first None old b = after_first old b

abbrev pub before_second : ℕ → Option Stroke → Option Progress
before_second x None = None
before_second x (Some s) = Some (Second x (Some s) Empty)

abbrev pub behind_second : ℕ → ℕ → Option Stroke → Option Progress
behind_second x y None = None
behind_second x y (Some s) = Some (Marked x y s)

-- the byte does not continue the reference's name
abbrev pub after_second : ℕ → Option Stroke → Naming → ℕ → Option Progress
after_second x (Some s) n b = None
after_second x None Empty b = before_second x (stroke_at b)
after_second x None (Side c) b = None
after_second x None (Kinded c k) b = None
after_second x None (Named y) b = behind_second x y (stroke_at b)

abbrev pub on_second : Option Naming → ℕ → Option Stroke → Naming → ℕ → Option Progress
on_second (Some n) x s old b = Some (Second x s n)
on_second None x s old b = after_second x s old b

-- what is read of a move text after one more byte
abbrev pub progress_with : Progress → ℕ → Option Progress
progress_with AtP b = if nat_eq b 97 then Some AtPa else None
progress_with AtPa b = if nat_eq b 115 then Some AtPas else None
progress_with AtPas b = if nat_eq b 115 then Some AtPass else None
progress_with AtPass b = None
progress_with (First n) b = on_first (naming_with n b) n b
progress_with (Second x s n) b = on_second (naming_with n b) x s n b
progress_with (Marked x y s) b = None

abbrev pub end_first : Naming → Option Form
end_first Empty = None
end_first (Side c) = None
end_first (Kinded c k) = None
end_first (Named x) = Some (Alone x)

abbrev pub front_mark : Option Stroke → Mark
front_mark None = On
front_mark (Some s) = Before s

abbrev pub end_second : ℕ → Option Stroke → Naming → Option Form
end_second x s Empty = None
end_second x s (Side c) = None
end_second x s (Kinded c k) = None
end_second x s (Named y) = Some (Beside x (front_mark s) y)

-- the form, if the text may end here
abbrev pub end_of : Progress → Option Form
end_of AtP = None
end_of AtPa = None
end_of AtPas = None
end_of AtPass = Some Passes
end_of (First n) = end_first n
end_of (Second x s n) = end_second x s n
end_of (Marked x y s) = Some (Beside x (After s) y)

abbrev pub go_on : {X : Type 0} → Option X → ℕ → (X → Result Form ℕ) → Result Form ℕ
go_on None offset f = Err offset
go_on (Some s) offset f = f s

-- the form of the bytes, or the offset of the first byte that is not possible there
unfoldable pub scan : Progress → List ℕ → ℕ → Result Form ℕ
scan s [] offset = ok_or (end_of s) offset
scan s (b ∷ bs) offset = go_on (progress_with s b) offset (λ next. scan next bs (offset + 1))
