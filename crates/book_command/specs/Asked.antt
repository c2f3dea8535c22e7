-- What the lines of an input ask a book. The first is a position, and each further one a played
-- game.
use Rattle.std.specs.Prelude.{◌≡◌, List, [], ◌∷◌, ◌++◌, map, Option, Some, None, Result, Ok, Err}
use Rattle.io_edge.specs.Lines.{Line, Text, TooLong as LongLine}
use Rattle.game_text.specs.declared.faults.GameFault.{GameFault}
use Rattle.game_text.specs.declared.parsed.Parsed.{Parsed}
use Rattle.game_text.specs.Reading.{game_of}
use Rattle.opening_book.specs.Book.{BookGame}
use Rattle.command_runs.specs.OneGame.{game_in}

-- the game of a text, if it is one
abbrev pub as_played : Result Parsed GameFault → Option BookGame
as_played (Ok game) = Some (record { game_type = game.game_type; made = game.moves })
as_played (Err fault) = None

-- the game that a line is, finished or not, if it is one
unfoldable pub played_in : Line → Option BookGame
played_in (Text bytes) = as_played (game_of bytes)
played_in LongLine = None

-- each of the lines is a game, and these are the games in their order
abbrev pub AreGames : List Line → List BookGame → Type 0
AreGames ls games = map played_in ls ≡ map (λ g. Some g) games

-- The first line is a game that is not over, and the position at its end is asked about. Each other
-- line is a game.
abbrev pub Asks : List Line → Parsed → List BookGame → Type 0
Asks [] start games = ⊥
Asks (line ∷ others) start games = (game_in line ≡ Ok start) × AreGames others games

-- none of these lines is refused: there is no line, or they ask about some position
abbrev pub AreGood : List Line → Type 0
AreGood [] = Unit {0}
AreGood (line ∷ others) =
    (start : Parsed) × (games : List BookGame) × Asks (line ∷ others) start games

-- Only the last of these lines is refused: it is not the first, and it is no game.
pub record IsRefused (read : List Line) : Type 0 where
  pub before : List Line
  pub last : Line
  pub are : read ≡ before ++ last ∷ []
  pub start : Parsed
  pub games : List BookGame
  pub asks : Asks before start games
  pub none : played_in last ≡ None
