-- What the run of a book writes and reads, by the status with which it ends.
use Rattle.std.specs.Prelude.{◌≡◌, ◌⊎◌, ℕ, ◌≤◌, List, [], ◌∷◌, ◌++◌, length, codes, Err}
use Rattle.io_edge.specs.Outside.{Told}
use Rattle.io_edge.specs.Lines.{Line, lines, whole_lines}
use Rattle.line_feed.specs.SoFar.{WasRead}
use Rattle.game_text.specs.declared.parsed.Parsed.{Parsed}
use Rattle.opening_book.specs.Book.{BookGame}
use Rattle.command_runs.specs.Answered.{AnsweredRun, Inquiry}
use Rattle.command_runs.specs.Input.{IsAllRead, Sides, WereRead}
use Rattle.command_runs.specs.OneGame.{game_in, last_position}
use Rattle.command_runs.specs.declared.status.Status.{Status}
use Rattle.book_command.specs.Asked.{AreGood, Asks, IsRefused}
use Rattle.book_command.specs.Text.{IsLineOf, refusal}

-- What is to be written

-- The input was read to its end. Its lines ask about a position, and this is the line of that
-- position's book over their games.
pub record IsAnswer (input : List ℕ) (rest : Told) (line : List ℕ) : Type 0 where
  pub start : Parsed
  pub games : List BookGame
  pub asks : Asks (lines input) start games
  pub over : IsAllRead input rest
  pub answers : IsLineOf (last_position start) games line

-- the input was read to its end, and has no line
pub record HasNoLine (input : List ℕ) (rest : Told) : Type 0 where
  pub none : lines input ≡ []
  pub over : IsAllRead input rest

-- the first line was read, and this is why it is no game that is not over
pub record IsNoStart (input : List ℕ) (rest : Told) (why : List ℕ) (line : Line) : Type 0 where
  pub were_read : WereRead input rest (line ∷ [])
  pub refused : game_in line ≡ Err why

-- these lines were read, and the last is refused for this reason
pub record IsNoGame (input : List ℕ) (rest : Told) (why : List ℕ) (read : List Line) : Type 0 where
  pub were_read : WereRead input rest read
  pub refused : IsRefused read
  pub why_is : why ≡ refusal (length read)

-- why the input is bad: it has no line, or this is the reason to refuse the line read last
abbrev pub IsBad : List ℕ → Told → List ℕ → Type 0
IsBad input rest why =
    (HasNoLine input rest × (why ≡ codes "no line"))
    ⊎ (((line : Line) × IsNoStart input rest why line)
    ⊎ ((read : List Line) × IsNoGame input rest why read))

-- If nothing is written

-- these bytes have left the source, and none of their lines that end in LF is refused
pub record IsUndecided (input : List ℕ) (rest : Told) (bytes left : List ℕ) : Type 0 where
  pub was_read : WasRead input rest bytes left
  pub good : AreGood (whole_lines bytes)

-- of the lines that were read, none before the last one is refused
pub record WereGood (input : List ℕ) (rest : Told) (front last : List Line) : Type 0 where
  pub were_read : WereRead input rest (front ++ last)
  pub good : AreGood front
  pub one : length last ≤ 1

-- some such lines were read
abbrev pub ReadsGood : List ℕ → Told → Type 0
ReadsGood input rest = (front : List Line) × (last : List Line) × WereGood input rest front last

-- The run

-- the lines of the input have to ask about a position
abbrev pub about_book : Inquiry
about_book = record { bad = IsBad; undecided = IsUndecided; begun = ReadsGood }

-- what was written and read if the run of a book ends with this status
abbrev pub BookRun : Status → Sides → Sides → Type 0
BookRun = AnsweredRun about_book IsAnswer
