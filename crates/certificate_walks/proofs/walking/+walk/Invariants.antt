use Rattle.std.proofs.Common.{◌≡◌, ◌+◌, ◌*◌}
use Rattle.hive_model.specs.declared.places.Move.{Move}
use Rattle.hive_model.specs.Legal.{moves}
use Rattle.hive_model.specs.Games.{after}
use Rattle.hive_model.specs.Histories.{position}
use Rattle.certificate_walks.specs.Limits.{EachKeeps}
use Rattle.certificate_walks.specs.Walks.{walk, walk_all}
use Rattle.certificate_walks.specs.Follows.{Ending, Follows, range_of}
use Rattle.certificate_walks.proofs.walking.+walk.Given as goal

abbrev pub decreases-walk_moves : goal.decreases-walk_moves
decreases-walk_moves g l = 4 * l.depth + 5

abbrev pub decreases-walk_child : goal.decreases-walk_child
decreases-walk_child g l = 4 * l.depth + 4

abbrev pub decreases-walk_claim : goal.decreases-walk_claim
decreases-walk_claim g l = 4 * l.depth + 3

abbrev pub decreases-walk_every : goal.decreases-walk_every
decreases-walk_every g l = 4 * l.depth + 2

abbrev pub decreases-walk_below : goal.decreases-walk_below
decreases-walk_below g l = 4 * l.depth + 2

-- the walk of the moves that are left answers as the walk of all of them does
abbrev pub invariant-walk_moves-loop-i : goal.invariant-walk_moves-loop-i
invariant-walk_moves-loop-i g l =
    let p = position (g.G.Game.history l.fn.game) in
    let f = λ (m : Move). walk g.W.Walker.rules (after p m) l.fn.depth l.fn.limit in
    record {
      game : g.G.Game.history l.game ≡ g.G.Game.history l.fn.game;
      stack : l.stack ≡ l.fn.stack;
      true_ : g.W.Walker.is_true l.fn.walker → g.W.Walker.is_true l.walker;
      shown : g.W.Walker.is_true l.fn.walker → EachKeeps p l.fn.depth l.fn.limit (range_of (moves p) l.i l.fn.to) → EachKeeps p l.fn.depth l.fn.limit (range_of (moves p) l.fn.from l.fn.to);
      told : (w : Ending g.W.Walker.Why) (n : g.W.Walker.Seen) → Follows g.W.Walker.sight (walk_all f (range_of (moves p) l.i l.fn.to)) (g.W.Walker.seen l.walker) w n
          → Follows g.W.Walker.sight (walk_all f (range_of (moves p) l.fn.from l.fn.to)) (g.W.Walker.seen l.fn.walker) w n;
      goes : g.W.Walker.parts.goes l.fn.walker l.walker;
    }
