-- How a run ends.
use Rattle.std.proofs.Common.{◌≡◌, ℕ, List, [], ◌∷◌, ◌++◌, ap, sym, ◌∙◌, subst, inl, inr, Some, None, arith, append_assoc}
use Rattle.std.specs.Prelude.{Option, Ok, Err}
use Rattle.std.proofs.lemmas.List.{append-nil}
use Rattle.io_edge.specs.Outside.{Told, behind}
use Rattle.hive_model.specs.declared.places.Move.{Move}
use Rattle.hive_model.specs.Histories.{History, position}
use Rattle.hive_model.specs.Legal.{moves}
use Rattle.io_edge.specs.Lines.{Line, lines}
use Rattle.hive_model.specs.Positions.{Position}
use Rattle.hive_model.proofs.GetLemmas.{on-at}
use Rattle.game_text.specs.declared.parsed.Parsed.{Parsed}
use Rattle.opening_book.specs.Book.{IsBook, BookGame}
use Rattle.command_runs.specs.Answered.{IsUnanswered}
use Rattle.command_runs.specs.Asking.{IsReplayOf}
use Rattle.command_runs.specs.Input.{WereRead}
use Rattle.command_runs.specs.OneGame.{game_in, last_position}
use Rattle.command_runs.specs.declared.no_game.NoGame.TheVariants.{Memory as NoMemory}
use Rattle.command_runs.proofs.AnsweredLemmas.{answered_done}
use Rattle.command_runs.proofs.GameRunLemmas.{end_is}
use Rattle.command_runs.proofs.OneGameLemmas.{all_were_read}
use Rattle.book_command.specs.Asked.{AreGames, AreGood, Asks, played_in}
use Rattle.book_command.specs.Laws.{BooksAreDone, IsMadeMove, WrittenMovesAreLegal}
use Rattle.book_command.specs.Reading.{IsWhole}
use Rattle.book_command.specs.Runs.{IsAnswer, IsBad, about_book}
use Rattle.book_command.specs.Text.{IsLegalHere, IsLineOf}

-- The line of the book

-- the move that a book names is legal
pub told_legal : (p : Position) (games : List BookGame) (found : Option (Move × ℕ)) → IsBook p games found → IsLegalHere p found
told_legal p games None book = tt
told_legal p games (Some b) book = on-at (moves p) book.place b.0 book.move

-- the input was read to its end, and this is the line
pub is_answer : (input : List ℕ) (rest : Told) (start : Parsed) (games : List BookGame) (history : History) (line : List ℕ) → IsReplayOf history start → IsWhole input rest start games → IsLineOf (position history) games line → IsAnswer input rest line
is_answer input rest start games history line replay_of whole is = record {
  start = start;
  games = games;
  asks = whole.asks;
  over = whole.over;
  answers = subst (λ p. IsLineOf p games line) (end_is history start replay_of) is;
}

asked_good : (ls : List Line) (start : Parsed) (games : List BookGame) → Asks ls start games → AreGood ls
asked_good [] start games never = absurd never
asked_good (line ∷ others) start games asks = (start, games, asks)

-- the input was read to its end, and memory ran out
pub no_line : (input : List ℕ) (rest : Told) (start : Parsed) (games : List BookGame) → IsWhole input rest start games → IsUnanswered about_book NoMemory input rest
no_line input rest start games whole = (
  lines input,
  [],
  record {
    were_read = subst (λ ls. WereRead input rest ls) (sym (append-nil (lines input))) (all_were_read whole.over);
    good = asked_good (lines input) start games whole.asks;
    one = omega arith;
  },
)

-- Laws

-- each of these lines is a game, and so none of them is refused
none_refused : (before others : List Line) (last : Line) (games : List BookGame) → AreGames (before ++ last ∷ others) games → played_in last ≡ None → ⊥
none_refused [] others last [] are none = cc
none_refused [] others last (game ∷ games) are none =
    let some : played_in last ≡ Some game = cc in
    let wrong : ◌≡◌ {A = Option BookGame} None (Some game) = sym none ∙ some in
    cc
none_refused (b ∷ before) others last [] are none = cc
none_refused (b ∷ before) others last (game ∷ games) are none =
    let rest : AreGames (before ++ last ∷ others) games = cc in
    none_refused before others last games rest none

none_after_first : (before others : List Line) (last : Line) (other : Parsed) (played : List BookGame) (start : Parsed) (games : List BookGame) → Asks before other played → Asks ((before ++ last ∷ []) ++ others) start games
    → played_in last ≡ None → ⊥
none_after_first [] others last other played start games never asks none = never
none_after_first (first ∷ before) others last other played start games good (opens, are) none =
    none_refused before others last games (subst (λ ls. AreGames ls games) (append_assoc before (last ∷ []) others) are) none

opens_not : (line : Line) (start : Parsed) (why : List ℕ) → game_in line ≡ Ok start → game_in line ≡ Err why → ⊥
opens_not line start why opens refused = cc

-- the lines ask about a position, and so the input is not bad
not_bad : (input : List ℕ) (rest : Told) (why : List ℕ) (start : Parsed) (games : List BookGame) → Asks (lines input) start games → IsBad input rest why → ⊥
not_bad input rest why start games asks (inl (none, is)) = subst (λ ls. Asks ls start games) none.none asks
not_bad input rest why start games asks (inr (inl (line, no_start))) =
    let (bytes, left, reader, others, read) = no_start.were_read in
    let first = subst (λ ls. Asks ls start games) read.of_input asks in
    opens_not line start why first.0 no_start.refused
not_bad input rest why start games asks (inr (inr (given, no_game))) =
    let (bytes, left, reader, others, read) = no_game.were_read in
    let r = no_game.refused in
    none_after_first r.before others r.last r.start r.games start games r.asks
    (subst (λ ls. Asks ls start games) (read.of_input ∙ ap (λ ls. ls ++ others) r.are) asks) r.none

pub books_done : BooksAreDone
books_done = answered_done about_book IsAnswer (λ input. (start : Parsed) × (games : List BookGame) × Asks (lines input) start games)
    (λ input rest why (start, games, asks) bad. not_bad input rest why start games asks bad) (λ input rest bytes left is. is.was_read)

made_move : (start : Parsed) (games : List BookGame) (found : Option (Move × ℕ)) → IsBook (last_position start) games found → IsMadeMove start games found
made_move start games None book = tt
made_move start games (Some b) book = (on-at (moves (last_position start)) book.place b.0 book.move, book.made, book.some)

pub moves_legal : WrittenMovesAreLegal
moves_legal = λ before after run input told.
    let (line, wrote) = run input told in
    let is = wrote.answer in (
      is.answers.found,
      record {
        start = is.start;
        games = is.games;
        asks = is.asks;
        legal = made_move is.start is.games is.answers.found is.answers.book;
        wrote = wrote.wrote ∙ ap (behind before.written) is.answers.is_line;
      },
    )
