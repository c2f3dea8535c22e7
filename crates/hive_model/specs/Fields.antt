-- The fields of lines: numbers, times, game types and states.
use Rattle.std.specs.Prelude.{◌≡◌, ℕ, ◌+◌, ◌*◌, ◌/◌, ◌%◌, ◌≤◌, Bool, true, false, List, [], ◌∷◌, ◌++◌, codes, decimal}
use Rattle.hive_model.specs.declared.pieces.GameType.{GameType}
use Rattle.hive_model.specs.declared.places.State.{State}
use Rattle.hive_model.specs.declared.places.State.TheVariants.{NotStarted, InProgress, Draw, WhiteWins, BlackWins}

-- a decimal number from `least` to `most` without leading zeros
pub record IsNumberText (text : List ℕ) (least most n : ℕ) : Type 0 where
  pub digits : text ≡ decimal n
  pub low : least ≤ n
  pub high : n ≤ most

-- The text of a game type is `Base`, and if it has expansions a plus and their letters.
abbrev pub added : Bool → Bool → Bool → List ℕ
added false false false = []
added true false false = codes "+M"
added false true false = codes "+L"
added false false true = codes "+P"
added true true false = codes "+ML"
added true false true = codes "+MP"
added false true true = codes "+LP"
added true true true = codes "+MLP"

abbrev pub type_bytes : GameType → List ℕ
type_bytes t = codes "Base" ++ added t.mosquito t.ladybug t.pillbug

abbrev pub state_bytes : State → List ℕ
state_bytes NotStarted = codes "NotStarted"
state_bytes InProgress = codes "InProgress"
state_bytes Draw = codes "Draw"
state_bytes WhiteWins = codes "WhiteWins"
state_bytes BlackWins = codes "BlackWins"

-- two digits
abbrev pub two_digits : ℕ → List ℕ
two_digits n = (48 + n / 10) ∷ ((48 + n % 10) ∷ [])

abbrev pub clock_bytes : ℕ → ℕ → ℕ → List ℕ
clock_bytes h m s = two_digits h ++ 58 ∷ (two_digits m ++ 58 ∷ two_digits s)

-- `hh:mm:ss`, as milliseconds
pub record IsTimeText (text : List ℕ) (budget : ℕ) : Type 0 where
  pub hours : ℕ
  pub minutes : ℕ
  pub seconds : ℕ
  pub hours_fit : hours ≤ 99
  pub minutes_fit : minutes ≤ 59
  pub seconds_fit : seconds ≤ 59
  pub text_is : text ≡ clock_bytes hours minutes seconds
  pub budget_is : budget ≡ ((hours * 60 + minutes) * 60 + seconds) * 1000
