use Rattle.std.proofs.Common.{[], subst, sym}
use Rattle.hive_model.specs.Histories.{position}
use Rattle.opening_book.specs.Book.{IsTally}
use Rattle.command_runs.specs.Asking.{IsReplayOf}
use Rattle.book_command.proofs.RunLaws.{is_answer, no_line}
use Rattle.book_command.proofs.StartLaws.{begun, none_begun, not_over, one_read, unread}
use Rattle.book_command.proofs.answering.answer.Goals as goal

pub returns-in_default-clause-none : goal.returns-in_default-clause-none
returns-in_default-clause-none g c = unread (g.S.Source.rest c.args.input.now)

pub returns-in-Err-clause-none : goal.returns-in-Err-clause-none
returns-in-Err-clause-none g c =
    let (bytes, taken, none) = c.in-Err.ensures.given in
    none_begun c.in-Err.none c.in-Ok.ensures taken none

pub tally_of-requires : goal.tally_of-requires
tally_of-requires g c =
    let (bytes, taken, gives) = c.in-Ok-first_game.ensures.given in
    not_over (g.G.Game.history c.in-Ok-first_game.game) gives

pub returns-in_default-tally_of-clause-none : goal.returns-in_default-tally_of-clause-none
returns-in_default-tally_of-clause-none g c = λ input told.
    let (bytes, taken, gives) = c.in-Ok-first_game.ensures.given in
    let (start, first, replay_of) = begun c.in-Ok.ensures taken gives input told in
    one_read input start _ _ first

pub book_line-requires : goal.book_line-requires
book_line-requires g c =
    let (games, counted, whole) = c.in-Ok-count_games.ensures.games in (
      games,
      counted _ [] (subst (λ k. IsTally (position k) [] c.in-Ok-tally_of.tally) (sym c.in-Ok-tally_of.ensures.game) c.in-Ok-tally_of.ensures.tally),
    )

pub returns-in-Ok-book_line-clause-line : goal.returns-in-Ok-book_line-clause-line
returns-in-Ok-book_line-clause-line g c = λ input told.
    let (bytes, taken, gives) = c.in-Ok-first_game.ensures.given in
    let (start, first, replay_of) = begun c.in-Ok.ensures taken gives input told in
    let (games, counted, whole) = c.in-Ok-count_games.ensures.games in
    let again = subst (λ k. IsReplayOf k start) (sym c.in-Ok-tally_of.ensures.game) replay_of in
    let tallied = counted _ [] (subst (λ k. IsTally (position k) [] c.in-Ok-tally_of.tally) (sym c.in-Ok-tally_of.ensures.game) c.in-Ok-tally_of.ensures.tally) in
    is_answer input _ start games (g.G.Game.history c.tally_of.new.game) c.in-Ok-book_line.line again (whole input start first) (c.in-Ok-book_line.ensures games tallied)

pub returns-in-Ok-count_games-clause-none : goal.returns-in-Ok-count_games-clause-none
returns-in-Ok-count_games-clause-none g c = λ input told.
    let (bytes, taken, gives) = c.in-Ok-first_game.ensures.given in
    let (start, first, replay_of) = begun c.in-Ok.ensures taken gives input told in
    let (games, counted, whole) = c.in-Ok-count_games.ensures.games in
    no_line input _ start games (whole input start first)

pub returns-clause-none : goal.returns-clause-none
returns-clause-none g c = λ input told.
    let (bytes, taken, gives) = c.in-Ok-first_game.ensures.given in
    let (start, first, replay_of) = begun c.in-Ok.ensures taken gives input told in
    c.in-Err-count_games.ensures.none input start first
