use Rattle.std.proofs.Common.{◌≡◌, ◌+◌, ◌*◌, ◌-◌, drop, map}
use Rattle.hive_model.specs.Minimax.{value, reply_value, greatest_from}
use Rattle.hive_model.specs.Legal.{moves}
use Rattle.hive_model.specs.Histories.{position}
use Rattle.search_laws.specs.Nodes.{AreAsBefore}
use Rattle.plain_search.proofs.values.+minimax.Given as goal

abbrev pub decreases-reply : goal.decreases-reply
decreases-reply g l = 2 * l.depth + 1

abbrev pub decreases-minimax : goal.decreases-minimax
decreases-minimax g l = 2 * l.depth

-- the greatest of the best so far and of the values of the moves left is the value of the position
abbrev pub invariant-minimax-loop-i : goal.invariant-minimax-loop-i
invariant-minimax-loop-i g l =
    let p = position (g.G.Game.history l.fn.game) in
    record {
      before : AreAsBefore (g.G.Game.history l.fn.game) (g.G.Game.history l.game) l.initial.stack l.stack;
      rest : greatest_from l.best (map (reply_value p (l.depth - 1)) (drop l.i (moves p))) ≡ value p l.depth;
    }
