-- What a call of the library leaves in the room that its caller lends, by its answer.
use Rattle.std.specs.Prelude.{◌≡◌, ◌⊎◌, ℕ, ◌<◌, List, ◌++◌, length, drop, Result, Ok, Err}
use Rattle.hive_library.specs.declared.faults.Fault.{Fault}
use Rattle.hive_library.specs.declared.faults.Fault.TheVariants.{NoGame, OutOfRange, Memory, TooLong, Unreadable, NotInPlay, NotLegal, GameOver, FullGame}

-- The text is at the front of the room, and the bytes after it are unchanged. Its length is stored.
pub record IsPut (text before now : List ℕ) (told : ℕ) : Type 0 where
  pub told_is : told ≡ length text
  pub put : now ≡ text ++ drop (length text) before

-- The text does not fit into the room, which is unchanged. Its length is stored.
pub record IsShort (text before now : List ℕ) (told : ℕ) : Type 0 where
  pub told_is : told ≡ length text
  pub short : length before < length text
  pub same : now ≡ before

-- the call ends with this status and the text is in the room, or with 9 and the room is too short
-- for it
abbrev pub PutsAs : ℕ → List ℕ → ℕ → List ℕ → List ℕ → ℕ → Type 0
PutsAs code text status before now told =
    ((status ≡ code) × IsPut text before now told) ⊎ ((status ≡ 9) × IsShort text before now told)

-- the same with status 0
abbrev pub Puts : List ℕ → ℕ → List ℕ → List ℕ → ℕ → Type 0
Puts text status before now told = PutsAs 0 text status before now told

-- the call ends with this status and without a text: the room is unchanged
pub record Ends (code status : ℕ) (before now : List ℕ) (told : ℕ) : Type 0 where
  pub status_is : status ≡ code
  pub same : now ≡ before
  pub none : told ≡ 0

-- the status that reports a fault
abbrev pub code : Fault → ℕ
code NoGame = 1
code OutOfRange = 2
code Memory = 7
code TooLong = 8
code Unreadable = 11
code NotInPlay = 12
code NotLegal = 13
code GameOver = 14
code FullGame = 15

-- a text, or why there is none
abbrev pub Answer : Type 0
Answer = Result (List ℕ) Fault

-- the call gives this answer
abbrev pub Gives : Answer → ℕ → List ℕ → List ℕ → ℕ → Type 0
Gives (Ok text) status before now told = Puts text status before now told
Gives (Err fault) status before now told = Ends (code fault) status before now told

-- the same, or memory ran out: nothing says when that happens
abbrev pub Answers : Answer → ℕ → List ℕ → List ℕ → ℕ → Type 0
Answers answer status before now told =
    Ends 7 status before now told ⊎ Gives answer status before now told

-- what was found of an answer: the answer itself, unless memory ran out
abbrev pub IsFound : {X : Type 0} → Result X Fault → Result X Fault → Type 0
IsFound (Ok x) answer = answer ≡ Ok x
IsFound (Err fault) answer = (fault ≡ Memory) ⊎ (answer ≡ Err fault)
