-- What a book writes.
use Rattle.std.specs.Prelude.{◌≡◌, ℕ, List, ◌∷◌, [], ◌++◌, codes, decimal, Option, Some, None}
use Rattle.hive_model.specs.declared.places.Move.{Move}
use Rattle.hive_model.specs.Boards.{Stacks}
use Rattle.hive_model.specs.Denotes.{text}
use Rattle.hive_model.specs.Lists.{IsOn}
use Rattle.hive_model.specs.Legal.{moves}
use Rattle.hive_model.specs.Positions.{Position}
use Rattle.opening_book.specs.Book.{IsBook, BookGame}

-- a move as written on a board, a space, and how often it was made; or `none`
abbrev pub book_field : Stacks → Option (Move × ℕ) → List ℕ
book_field board None = codes "none"
book_field board (Some b) = text board b.0 ++ (32 ∷ decimal b.1)

-- the line that a book writes, ended by LF
abbrev pub book_line : Stacks → Option (Move × ℕ) → List ℕ
book_line board found = codes "book " ++ (book_field board found ++ 10 ∷ [])

-- the named move, if there is one, is legal
abbrev pub IsLegalHere : Position → Option (Move × ℕ) → Type 0
IsLegalHere p None = Unit {0}
IsLegalHere p (Some b) = IsOn (moves p) b.0

-- the text is the line of a position's book over these games
pub record IsLineOf (p : Position) (games : List BookGame) (line : List ℕ) : Type 0 where
  pub found : Option (Move × ℕ)
  pub book : IsBook p games found
  pub is_line : line ≡ book_line p.board found

-- why a line with this number is refused
abbrev pub refusal : ℕ → List ℕ
refusal number = codes "line " ++ decimal number
