use Rattle.std.proofs.Common.{◌≡◌, ◌+◌, ◌*◌, ◌-◌, drop}
use Rattle.std.specs.List.{sum_by}
use Rattle.hive_model.specs.Legal.{moves}
use Rattle.hive_model.specs.Games.{after}
use Rattle.hive_model.specs.Minimax.{lines}
use Rattle.hive_model.specs.Histories.{position}
use Rattle.search_laws.specs.Nodes.{AreAsBefore}
use Rattle.plain_search.specs.Known.{AreKnown}
use Rattle.plain_search.proofs.counts.+count.Given as goal

abbrev pub decreases-lines_once : goal.decreases-lines_once
decreases-lines_once g l = 3 * l.plies + 2

abbrev pub decreases-lines_behind : goal.decreases-lines_behind
decreases-lines_behind g l = 3 * l.plies + 1

abbrev pub decreases-lines_from : goal.decreases-lines_from
decreases-lines_from g l = 3 * l.plies

-- the count so far and that of the moves left add up to the whole
abbrev pub invariant-lines_from-loop-i : goal.invariant-lines_from-loop-i
invariant-lines_from-loop-i g l =
    let p = position (g.G.Game.history l.fn.game) in
    record {
      before : AreAsBefore (g.G.Game.history l.fn.game) (g.G.Game.history l.game) l.initial.stack l.stack;
      known : AreKnown p (l.plies - 1) l.known.items;
      rest : l.total + sum_by (λ m. lines (after p m) (l.plies - 1)) (drop l.i (moves p)) ≡ lines p l.plies;
    }
