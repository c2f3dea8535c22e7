-- The fields of a line, as functions that compute.
use Rattle.std.specs.Prelude.{ℕ, ◌+◌, ◌*◌, ◌-◌, ◌/◌, ◌%◌, Bool, true, false, ◌&&◌, nat_le, nat_lt, nat_eq, List, [], ◌∷◌, decimal, Option, Some, None, if◌then◌else◌}
use Rattle.std.specs.Str.{bytes_eq}
use Rattle.std.specs.Str.Parse.{digits_value}
use Rattle.hive_model.specs.declared.pieces.GameType.{GameType}
use Rattle.hive_model.specs.declared.places.State.{State}
use Rattle.hive_model.specs.declared.places.State.TheVariants.{NotStarted, InProgress, Draw, WhiteWins, BlackWins}
use Rattle.hive_model.specs.Fields.{clock_bytes, state_bytes, type_bytes}
use Rattle.move_text.specs.Tables.{named_by}

-- a decimal number without leading zeros, in this range
unfoldable pub number_at : List ℕ → ℕ → ℕ → Option ℕ
number_at text least most =
    if bytes_eq (decimal (digits_value 10 text)) text
    && (nat_le least (digits_value 10 text) && nat_le (digits_value 10 text) most)
    then Some (digits_value 10 text) else None

abbrev pub game_type_of : Bool → Bool → Bool → GameType
game_type_of m l p = record { mosquito = m; ladybug = l; pillbug = p }

abbrev pub game_types : List GameType
game_types =
    game_type_of false false false ∷ game_type_of true false false ∷ game_type_of false true false
    ∷ game_type_of false false true
    ∷ game_type_of true true false ∷ game_type_of true false true ∷ game_type_of false true true
    ∷ game_type_of true true true ∷ []

-- the game type that the text names
unfoldable pub type_at : List ℕ → Option GameType
type_at = named_by type_bytes game_types

abbrev pub states : List State
states = NotStarted ∷ InProgress ∷ Draw ∷ WhiteWins ∷ BlackWins ∷ []

-- the state that the text names
unfoldable pub state_at : List ℕ → Option State
state_at = named_by state_bytes states

-- the number of two digits, if it is at most a bound
abbrev pub is_digit : ℕ → Bool
is_digit b = nat_le 48 b && nat_lt b 58

abbrev pub two_digit_number : ℕ → ℕ → ℕ → Option ℕ
two_digit_number most a b =
    if is_digit a && (is_digit b && nat_le ((a - 48) * 10 + (b - 48)) most)
    then Some ((a - 48) * 10 + (b - 48)) else None

abbrev pub budget_of : Option ℕ → Option ℕ → Option ℕ → Option ℕ
budget_of None m s = None
budget_of (Some h) None s = None
budget_of (Some h) (Some m) None = None
budget_of (Some h) (Some m) (Some s) = Some (((h * 60 + m) * 60 + s) * 1000)

abbrev pub time_at : List ℕ → Option ℕ
time_at (a ∷ b ∷ c ∷ d ∷ e ∷ f ∷ g ∷ h ∷ []) =
    if nat_eq c 58 && nat_eq f 58 then budget_of (two_digit_number 99 a b) (two_digit_number 59 d e)
    (two_digit_number 59 g h)
    else None
time_at _ = None

-- the time `hh:mm:ss` of this many milliseconds
abbrev pub time_bytes : ℕ → List ℕ
time_bytes budget =
    clock_bytes (budget / 1000 / 3600) (budget / 1000 / 60 % 60) (budget / 1000 % 60)
