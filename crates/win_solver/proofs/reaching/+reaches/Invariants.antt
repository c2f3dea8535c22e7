use Rattle.std.proofs.Common.{◌≡◌, ◌+◌, ◌-◌, ◌*◌, drop}
use Rattle.std.specs.Prelude.{int_le}
use Rattle.std.specs.List.{list_any}
use Rattle.hive_model.specs.Legal.{moves}
use Rattle.hive_model.specs.Minimax.{value}
use Rattle.hive_model.specs.Histories.{position}
use Rattle.search_laws.specs.Nodes.{AreAsBefore}
use Rattle.win_solver.proofs.ReachLaws.{reply_reaches}
use Rattle.win_solver.proofs.reaching.+reaches.Given as goal

abbrev pub decreases-reply_reaches : goal.decreases-reply_reaches
decreases-reply_reaches g l = 6 * l.depth + 6

abbrev pub decreases-reaches : goal.decreases-reaches
decreases-reaches g l = 6 * l.depth + 5

abbrev pub decreases-reaches_at_once : goal.decreases-reaches_at_once
decreases-reaches_at_once g l = 10

abbrev pub decreases-find_reply : goal.decreases-find_reply
decreases-find_reply g l = 6 * l.depth + 3

abbrev pub decreases-first_reply : goal.decreases-first_reply
decreases-first_reply g l = 6 * l.depth + 2

abbrev pub decreases-hinted_reply : goal.decreases-hinted_reply
decreases-hinted_reply g l = 6 * l.depth + 1

abbrev pub invariant-first_reply-loop-i : goal.invariant-first_reply-loop-i
invariant-first_reply-loop-i g l =
    let p = position (g.G.Game.history l.fn.game) in
    record {
      before : AreAsBefore (g.G.Game.history l.fn.game) (g.G.Game.history l.game) l.fn.space.stack l.space.stack;
      rest : list_any (reply_reaches p (l.depth - 1) l.least) (drop l.i (moves p)) ≡ int_le l.least (value p l.depth);
    }
