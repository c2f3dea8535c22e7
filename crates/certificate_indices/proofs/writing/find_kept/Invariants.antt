use Rattle.std.proofs.Common.{◌≡◌, drop}
use Rattle.std.specs.List.{position_from}
use Rattle.hive_model.specs.Legal.{moves}
use Rattle.hive_model.specs.Histories.{position}
use Rattle.certificate_indices.specs.Writing.{keeps_below, first_kept}
use Rattle.certificate_indices.proofs.writing.find_kept.Given as goal

-- the place is that among the moves that are left
abbrev pub invariant-loop-i : goal.invariant-loop-i
invariant-loop-i g l =
    let p = position (g.G.Game.history l.fn.game) in
    record {
      game : g.G.Game.history l.game ≡ g.G.Game.history l.fn.game;
      same : g.J.Judge.prepared l.judge ≡ g.J.Judge.prepared l.fn.judge;
      place : first_kept p l.depth l.limit (moves p) ≡ position_from (keeps_below p l.depth l.limit) l.i (drop l.i (moves p));
    }
