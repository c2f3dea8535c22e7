-- Input that must be one line, a game that is not over: the game, or why there is none, and what
-- was read to find that out.
use Rattle.std.specs.Prelude.{◌≡◌, ℕ, ◌≤◌, List, [], ◌∷◌, ◌++◌, length, codes, Result, Ok, Err, if◌then◌else◌}
use Rattle.io_edge.specs.Outside.{Told}
use Rattle.hive_model.specs.Positions.{Position, opening}
use Rattle.hive_model.specs.Games.{replay}
use Rattle.hive_model.specs.Legal.{is_over}
use Rattle.io_edge.specs.Lines.{Line, Text, TooLong as LongLine, lines, whole_lines}
use Rattle.line_feed.specs.SoFar.{WasRead}
use Rattle.game_text.specs.declared.faults.GameFault.{GameFault}
use Rattle.game_text.specs.declared.parsed.Parsed.{Parsed}
use Rattle.game_text.specs.Reading.{game_of}
use Rattle.command_runs.specs.Reasons.{reason}
use Rattle.command_runs.specs.Input.{IsAllRead, WereRead}

-- the position after all moves of a game
abbrev pub last_position : Parsed → Position
last_position game = replay (opening game.game_type) game.moves

-- a game, if it is not over
abbrev pub if_open : Parsed → Result Parsed (List ℕ)
if_open game = if is_over (last_position game) then Err (codes "game over") else Ok game

abbrev pub open_game : Result Parsed GameFault → Result Parsed (List ℕ)
open_game (Ok game) = if_open game
open_game (Err fault) = Err (reason fault)

-- the game of a line, if it is not over, or why there is none
unfoldable pub game_in : Line → Result Parsed (List ℕ)
game_in (Text bytes) = open_game (game_of bytes)
game_in LongLine = Err (codes "line too long")

-- The game must be followed by no further line, not even an empty one.
abbrev pub and_no_more : Result Parsed (List ℕ) → List Line → Result Parsed (List ℕ)
and_no_more (Err why) others = Err why
and_no_more (Ok game) [] = Ok game
and_no_more (Ok game) (line ∷ others) = Err (codes "more lines")

-- the game that the lines ask about, or why there is none, in the order of the tests
abbrev pub asked : List Line → Result Parsed (List ℕ)
asked [] = Err (codes "no line")
asked (line ∷ others) = and_no_more (game_in line) others

-- the input is exactly one line, a game that is not over
abbrev pub AsksOne : List ℕ → Type 0
AsksOne input = (game : Parsed) × (asked (lines input) ≡ Ok game)

-- the line that is written if there is no such game
abbrev pub bad_line : List ℕ → List ℕ
bad_line why = codes "bad " ++ (why ++ 10 ∷ [])

-- the input asks about this game, and was read to its end
pub record IsAsked (input : List ℕ) (rest : Told) (game : Parsed) : Type 0 where
  pub asks : asked (lines input) ≡ Ok game
  pub over : IsAllRead input rest

-- The input asks about no game, for this reason. The lines that were read, at most two, show it.
pub record IsBad (input : List ℕ) (rest : Told) (why : List ℕ) : Type 0 where
  pub asks : asked (lines input) ≡ Err why
  pub read : List Line
  pub were_read : WereRead input rest read
  pub shown : asked read ≡ Err why
  pub few : length read ≤ 2

-- Lines that do not yet determine the answer: none, or one that is a game not over.
abbrev pub AreUndecided : List Line → Type 0
AreUndecided [] = Unit {0}
AreUndecided (line ∷ []) = (game : Parsed) × (game_in line ≡ Ok game)
AreUndecided (line ∷ (other ∷ others)) = ⊥

-- The bytes that have left the source are these, and their lines that end in an LF do not yet
-- determine the answer.
pub record IsUndecided (input : List ℕ) (rest : Told) (bytes left : List ℕ) : Type 0 where
  pub was_read : WasRead input rest bytes left
  pub undecided : AreUndecided (whole_lines bytes)

-- At most two lines were read.
abbrev pub FewWereRead : List ℕ → Told → Type 0
FewWereRead input rest = (read : List Line) × WereRead input rest read × (length read ≤ 2)
