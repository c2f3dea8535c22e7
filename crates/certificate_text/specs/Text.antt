-- Certificates as texts. The head is five lines: `hive-certificate ` and the version; a game;
-- `depth ` and a number from 1 to 64; `move ` and a move text; `value ` and a whole number. Each
-- line after them is an index.
use Rattle.std.specs.Prelude.{ℕ, List, [], ◌∷◌, ◌++◌, codes, decimal, drop, ℤ, pos, neg_ℤ, Option, Some, None, Result, Ok, Err, option_map}
use Rattle.std.specs.Fmt.{signed_decimal}
use Rattle.hive_model.specs.declared.pieces.GameType.{GameType}
use Rattle.hive_model.specs.declared.places.Move.{Move}
use Rattle.hive_model.specs.Positions.{opening}
use Rattle.hive_model.specs.Games.{replay}
use Rattle.hive_model.specs.Denotes.{text}
use Rattle.io_edge.specs.Lines.{Line, Text, TooLong}
use Rattle.hive_model.specs.Strings.{string}
use Rattle.move_text.specs.Readers.{number_at}
use Rattle.game_text.specs.Turns.{behind_word}
use Rattle.game_text.specs.Reading.{game_of}
use Rattle.game_text.specs.declared.parsed.Parsed.{Parsed}
use Rattle.game_text.specs.declared.faults.GameFault.{GameFault}
use Rattle.certificate_text.specs.declared.head.Head.{Head}
use Rattle.certificate_text.specs.declared.head.HeadFault.{HeadFault}
use Rattle.certificate_text.specs.declared.head.HeadFault.TheVariants.{BadLine, BadGame}

-- The fields of the lines

abbrev pub then_at : {A B : Type 0} → Option A → (A → Option B) → Option B
then_at None next = None
then_at (Some a) next = next a

-- a number in this range, after a word
abbrev pub number_behind : List ℕ → ℕ → ℕ → List ℕ → Option ℕ
number_behind word least most line =
    then_at (behind_word word line) (λ t. number_at t least most)

abbrev pub version_at : ℕ → List ℕ → Option ℕ
version_at newest line = number_behind (codes "hive-certificate ") 1 newest line

abbrev pub depth_at : List ℕ → Option ℕ
depth_at line = number_behind (codes "depth ") 1 64 line

-- the text, if it is not empty
abbrev pub not_empty : List ℕ → Option (List ℕ)
not_empty [] = None
not_empty (b ∷ bs) = Some (b ∷ bs)

abbrev pub move_at : List ℕ → Option (List ℕ)
move_at line = then_at (behind_word (codes "move ") line) not_empty

-- after a minus sign a number that is not 0; without one, any number
abbrev pub signed : Option (List ℕ) → List ℕ → Option ℤ
signed (Some digits) text = option_map (λ n. neg_ℤ (pos n)) (number_at digits 1 1000064)
signed None text = option_map (λ n. pos n) (number_at text 0 1000064)

abbrev pub int_at : List ℕ → Option ℤ
int_at text = signed (behind_word (codes "-") text) text

abbrev pub value_at : List ℕ → Option ℤ
value_at line = then_at (behind_word (codes "value ") line) int_at

-- a place in a list of moves
abbrev pub index_at : List ℕ → Option ℕ
index_at line = number_at line 0 5487

abbrev pub index_in : Line → Option ℕ
index_in (Text line) = index_at line
index_in TooLong = None

-- The head, line by line. Its fault is the first line that is missing, too long or malformed, or
-- what is wrong with the game.

abbrev pub or_bad : {A : Type 0} → ℕ → Option A → Result A HeadFault
or_bad n None = Err (BadLine n)
or_bad n (Some a) = Ok a

-- the field of the first of the lines, which has the number n in the text
abbrev pub field_in : {A : Type 0} → ℕ → (List ℕ → Option A) → List Line → Result A HeadFault
field_in n at [] = Err (BadLine n)
field_in n at (TooLong ∷ rest) = Err (BadLine n)
field_in n at (Text line ∷ rest) = or_bad n (at line)

abbrev pub or_bad_game : Result Parsed GameFault → Result Parsed HeadFault
or_bad_game (Ok game) = Ok game
or_bad_game (Err fault) = Err (BadGame fault)

-- the game of the first of the lines, which is the second line of the text
abbrev pub game_in : List Line → Result Parsed HeadFault
game_in [] = Err (BadLine 2)
game_in (TooLong ∷ rest) = Err (BadLine 2)
game_in (Text line ∷ rest) = or_bad_game (game_of line)

-- goes on with a part of a head, or keeps its fault
abbrev pub and_then : {A B : Type 0} → Result A HeadFault → (A → Result B HeadFault)
    → Result B HeadFault
and_then (Ok a) next = next a
and_then (Err fault) next = Err fault

abbrev pub HeadRead : Type 0
HeadRead = Result Head HeadFault

-- the head that the first five of these lines are, with a version up to the newest, or their first
-- fault
unfoldable pub head_of : ℕ → List Line → HeadRead
head_of newest lines =
    and_then (field_in 1 (version_at newest) lines) (λ version.
    and_then (game_in (drop 1 lines)) (λ game.
    and_then (field_in 3 depth_at (drop 2 lines)) (λ depth.
    and_then (field_in 4 move_at (drop 3 lines)) (λ claim_text.
    and_then (field_in 5 value_at (drop 4 lines)) (λ value.
    Ok (record {
      version = version;
      game_type = game.game_type;
      moves = game.moves;
      claim_text = claim_text;
      depth = depth;
      value = value;
    }))))))

-- The written form

abbrev pub written_line : List ℕ → List ℕ
written_line line = line ++ 10 ∷ []

-- the five lines of the head
unfoldable pub head_text : ℕ → GameType → List Move → ℕ → Move → ℤ → List ℕ
head_text version t ms depth m v =
    written_line (codes "hive-certificate " ++ decimal version)
    ++ written_line (string t ms)
    ++ written_line (codes "depth " ++ decimal depth)
    ++ written_line (codes "move " ++ text (replay (opening t) ms).board m)
    ++ written_line (codes "value " ++ signed_decimal v)

-- an index on a line of its own
abbrev pub index_line : ℕ → List ℕ
index_line i = written_line (decimal i)
