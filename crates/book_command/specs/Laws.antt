-- When the run of a book is done, and what it has then written.
use Rattle.std.specs.Prelude.{◌≡◌, ℕ, ◌<◌, List, Option, Some, None}
use Rattle.io_edge.specs.Outside.{behind}
use Rattle.hive_model.specs.declared.places.Move.{Move}
use Rattle.io_edge.specs.Lines.{lines}
use Rattle.game_text.specs.declared.parsed.Parsed.{Parsed}
use Rattle.opening_book.specs.Book.{BookGame, count}
use Rattle.hive_model.specs.Legal.{moves}
use Rattle.hive_model.specs.Lists.{IsOn}
use Rattle.command_runs.specs.Input.{Sides, WhereTold}
use Rattle.command_runs.specs.OneGame.{last_position}
use Rattle.command_runs.specs.Served.{RunsAreDone}
use Rattle.command_runs.specs.declared.status.Status.TheVariants.{Done}
use Rattle.book_command.specs.Asked.{Asks}
use Rattle.book_command.specs.Runs.{BookRun}
use Rattle.book_command.specs.Text.{book_line}

-- For an input whose first line is a game that is not over, and whose other lines are games: if no
-- read or write failed, the run is done, unless memory ran out.
abbrev pub BooksAreDone : Type 0
BooksAreDone =
    RunsAreDone BookRun
    (λ input. (start : Parsed) × (games : List BookGame) × Asks (lines input) start games)

-- a legal move of the position, made in these games as often as stated and at least once; or none
abbrev pub IsMadeMove : Parsed → List BookGame → Option (Move × ℕ) → Type 0
IsMadeMove start games None = Unit {0}
IsMadeMove start games (Some b) =
    IsOn (moves (last_position start)) b.0
    × (count (last_position start) b.0 games ≡ b.1) × (0 < b.1)

-- the lines ask about a position, and the line of such a move was written
pub record WroteMade (input : List ℕ) (before after : Sides) (found : Option (Move × ℕ))
    : Type 0 where
  pub start : Parsed
  pub games : List BookGame
  pub asks : Asks (lines input) start games
  pub legal : IsMadeMove start games found
  pub wrote : after.written ≡ behind before.written (book_line (last_position start).board found)

-- so if a run is done, the move that was written is legal
abbrev pub WrittenMovesAreLegal : Type 0
WrittenMovesAreLegal =
    (before : Sides) → (after : Sides) → BookRun Done before after
    → WhereTold before.rest
    (λ input. (found : Option (Move × ℕ)) × WroteMade input before after found)
