use Rattle.command_runs.proofs.OneGameLemmas.{game_alone, no_game_after, no_game_first, none_read}
use Rattle.command_runs.proofs.asking.read_one_game.Goals as goal

pub returns-in_default-clause-none : goal.returns-in_default-clause-none
returns-in_default-clause-none g c = λ input told. none_read input _ told

pub returns-in-Err-clause-none : goal.returns-in-Err-clause-none
returns-in-Err-clause-none g c =
    let (bytes, taken, none) = c.in-Err.ensures.given in
    no_game_first c.in-Err.none c.in-Ok.ensures taken none

pub returns-in-Ok-no_more_lines-clause-game : goal.returns-in-Ok-no_more_lines-clause-game
returns-in-Ok-no_more_lines-clause-game g c =
    let (bytes, taken, gives) = c.in-Ok-first_game.ensures.given in
    let (more_bytes, more, ends) = c.in-Ok-no_more_lines.ensures.given in
    game_alone c.in-Ok.ensures taken gives more ends

pub returns-clause-none : goal.returns-clause-none
returns-clause-none g c =
    let (bytes, taken, gives) = c.in-Ok-first_game.ensures.given in
    let (more_bytes, more, goes_on) = c.in-Err-no_more_lines.ensures.given in
    no_game_after c.in-Err-no_more_lines.none c.in-Ok.ensures taken gives more goes_on
