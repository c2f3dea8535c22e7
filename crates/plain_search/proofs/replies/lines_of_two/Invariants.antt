use Rattle.std.proofs.Common.{◌≡◌}
use Rattle.hive_model.specs.Histories.{position}
use Rattle.plain_search.specs.Replies.{AreCounted}
use Rattle.plain_search.proofs.CountSteps.{CountsTo}
use Rattle.plain_search.proofs.replies.lines_of_two.Given as goal

-- the count so far and that of the moves left add up to the whole
abbrev pub invariant-loop-i : goal.invariant-loop-i
invariant-loop-i g l =
    let start = g.G.Game.history l.fn.game in
    record {
      same : g.G.Game.history l.game ≡ start;
      known : AreCounted (position start) l.counted.items;
      rest : CountsTo (position start) 2 l.i l.total;
    }
