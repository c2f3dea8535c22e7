use Rattle.std.proofs.Common.{refl, ◌∙◌}
use Rattle.book_command.proofs.CountLaws.{all_counted, none_after, none_counted, one_counted}
use Rattle.book_command.proofs.reading.count_games.Goals as goal

pub games-init : goal.games-init
games-init g c = record { counting = none_counted _ _ _ c.requires; reads = refl }

pub games-preserved : goal.games-preserved
games-preserved g c =
    let (bytes, taken, (line, is)) = rw c.in-Ok-Some.field-0-is at c.in-Ok-Some.ensures.given in record {
      counting = one_counted (g.G.Game.history c.in-Ok-Some.game) c.games.invariant.counting taken is c.add.ensures.added c.add.ensures.plies;
      reads = c.in-Ok-Some.ensures.cause.same (λ e. cc) ∙ c.games.invariant.reads;
    }

pub returns-in-Ok-None-clause-games : goal.returns-in-Ok-None-clause-games
returns-in-Ok-None-clause-games g c =
    let (bytes, taken, ends) = rw c.in-Ok-None.field-0-is at c.in-Ok-None.ensures.given in
    (c.games.invariant.counting.games, c.games.invariant.counting.tally, all_counted c.games.invariant.counting taken ends)

pub returns-in-Err-clause-none : goal.returns-in-Err-clause-none
returns-in-Err-clause-none g c =
    let (bytes, taken, none) = c.in-Err.ensures.given in
    none_after c.in-Err.none c.games.invariant.counting taken none
