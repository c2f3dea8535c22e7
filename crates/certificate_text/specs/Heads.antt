-- What the parts of a head's reader answer.
use Rattle.std.specs.Prelude.{◌≡◌, ◌≢◌, ℕ, ◌+◌, ◌-◌, ◌<◌, ◌≤◌, ◌⊎◌, ⊤, List, ◌∷◌, length, drop, Option, Some, Result, Ok, Err}
use Rattle.io_edge.specs.Outside.{HasCause, Told}
use Rattle.line_feed.specs.Feed.{Reading, input_limit}
use Rattle.std.specs.Option.{option_map}
use Rattle.io_edge.specs.Lines.{Line, Text, ToldLines, NoneAhead, LongAhead, greatest_line}
use Rattle.hive_model.specs.Games.{IsGame}
use Rattle.game_text.specs.declared.faults.GameFault.{GameFault}
use Rattle.game_text.specs.declared.faults.GameFault.TheVariants.{Memory as NoMemory}
use Rattle.game_text.specs.declared.parsed.Parsed.{Parsed}
use Rattle.search_laws.specs.Laws.{IsSmall}
use Rattle.certificate_text.specs.declared.head.Head.{Head}
use Rattle.certificate_text.specs.declared.head.HeadFault.{HeadFault}
use Rattle.certificate_text.specs.declared.head.HeadFault.TheVariants.{BadLine, BadGame, ReadFault, InputFull, Memory}
use Rattle.certificate_text.specs.Text.{HeadRead}
use Rattle.certificate_text.specs.Taken.{HasRead}

-- how many bytes a reader has taken and its source has yet to give, if the source is observable
abbrev pub in_all : Reading → Told → Option ℕ
in_all reader rest = option_map (λ left. reader.taken + length left) rest

-- The next line was taken. Otherwise it is missing or too long, and the fault is the line of this
-- number.
abbrev pub TakesLine : Result ⊤ HeadFault → ℕ → List ℕ → ToldLines → ToldLines → Type 0
TakesLine (Ok done) n last old new = old ≡ option_map (λ left. Text last ∷ left) new
TakesLine (Err (BadLine k)) n last old new = (k ≡ n) × (NoneAhead old ⊎ LongAhead old)
TakesLine (Err (BadGame fault)) n last old new = ⊥
TakesLine (Err ReadFault) n last old new = ⊤
TakesLine (Err InputFull) n last old new = ⊤
TakesLine (Err Memory) n last old new = ⊥

-- The number of the last line that can have been taken when the reading of lines up to the n-th
-- meets this fault. It is the bad line; the second line, if the game is wrong; the line before the
-- n-th after a failed read; otherwise the n-th.
abbrev pub fault_line : ℕ → HeadFault → ℕ
fault_line n (BadLine k) = k
fault_line n (BadGame fault) = 2
fault_line n ReadFault = n - 1
fault_line n InputFull = n
fault_line n Memory = n

-- the same, by the answer of the reading; it takes all n lines if it meets no fault
abbrev pub last_line : {A : Type 0} → ℕ → Result A HeadFault → ℕ
last_line n (Ok a) = n
last_line n (Err fault) = fault_line n fault

-- What the reading of k lines of a head leaves behind, by its answer. The last of these lines is
-- the n-th of the text. The record says why the input could not be read. No byte is lost. If at
-- most the lines before these were read before, at most the lines up to `last_line` are read after.
pub record TakesLines {A : Type 0} (k n : ℕ) (result : Result A HeadFault)
    (reader reader' : Reading) (rest rest' : Told) (faults faults' : ℕ) : Type 0 where
  pub full : result ≡ Err InputFull → reader'.taken ≡ input_limit
  pub cause : HasCause (result ≡ Err ReadFault) faults faults'
  pub bytes : in_all reader' rest' ≡ in_all reader rest
  pub failed : result ≡ Err ReadFault → reader'.taken < input_limit
  pub read : (input : List ℕ) (before : ℕ) → n ≡ before + k → HasRead input rest reader before
      → HasRead input rest' reader' (last_line n result)

-- the game of a line, or what is wrong with it, unless memory ran out
abbrev pub ReadsGame : Result Parsed HeadFault → Result Parsed GameFault → Type 0
ReadsGame (Ok game) read = read ≡ Ok game
ReadsGame (Err (BadLine n)) read = ⊥
ReadsGame (Err (BadGame fault)) read = (read ≡ Err fault) × (fault ≢ NoMemory)
ReadsGame (Err ReadFault) read = ⊥
ReadsGame (Err InputFull) read = ⊥
ReadsGame (Err Memory) read = ⊤

-- What the reading of a part of a head answers if exactly these lines were to come. It answers what
-- the definition gives, and all but their first k are still to come; or it answers the fault that
-- the definition gives.
abbrev pub Reads : {A : Type 0} → ℕ → Result A HeadFault → Result A HeadFault → List Line
    → ToldLines → Type 0
Reads k (Ok a) read lines later = (read ≡ Ok a) × (later ≡ Some (drop k lines))
Reads k (Err (BadLine n)) read lines later = read ≡ Err (BadLine n)
Reads k (Err (BadGame fault)) read lines later = read ≡ Err (BadGame fault)
Reads k (Err ReadFault) read lines later = ⊤
Reads k (Err InputFull) read lines later = ⊤
Reads k (Err Memory) read lines later = ⊤

-- A head was read, or its first fault is in one of the lines after the first n. None of the first n
-- is at fault.
abbrev pub IsBehind : {A : Type 0} → ℕ → Result A HeadFault → Type 0
IsBehind n (Ok a) = ⊤
IsBehind n (Err (BadLine k)) = n < k
IsBehind n (Err (BadGame fault)) = n < 2
IsBehind n (Err ReadFault) = ⊥
IsBehind n (Err InputFull) = ⊥
IsBehind n (Err Memory) = ⊥

-- After a failed read within a head of n lines, which would give this head or fault: fewer than n
-- lines of the input were read, and none of them is at fault.
pub record BreaksOff {A : Type 0} (n : ℕ) (read : Result A HeadFault) (input : List ℕ)
    (rest : Told) (reader : Reading) : Type 0 where
  pub lines : ℕ
  pub fewer : lines < n
  pub taken : HasRead input rest reader lines
  pub sound : IsBehind lines read

-- the same for a whole head, which is five lines
abbrev pub ReadsHead : HeadRead → HeadRead → List Line → ToldLines → Type 0
ReadsHead = Reads 5

-- what holds of every head
pub record IsHead (newest : ℕ) (head : Head) : Type 0 where
  pub old : 1 ≤ head.version
  pub known : head.version ≤ newest
  pub game : IsGame head.game_type head.moves
  pub few : length head.moves ≤ 5000
  pub some : 1 ≤ head.depth
  pub deep : head.depth ≤ 64
  pub short : length head.claim_text ≤ greatest_line
  pub small : IsSmall 1000064 head.value
