use Rattle.std.proofs.Common.{sym, ◌∙◌}
use Rattle.cut_keeper.proofs.KeepingLaws.{no_top}
use Rattle.cut_keeper.proofs.RingLaws.{arc_mask}
use Rattle.cut_keeper.proofs.updating.removed.Goals as goal

pub removed_above-requires-clause-top : goal.removed_above-requires-clause-top
removed_above-requires-clause-top g c = sym c.in-Some.ensures

pub removed_beside-requires-clause-empty : goal.removed_beside-requires-clause-empty
removed_beside-requires-clause-empty g c = no_top (g.B.Board.stacks c.args.board.now) c.args.place c.in_default.ensures

pub removed_beside-requires-clause-ring : goal.removed_beside-requires-clause-ring
removed_beside-requires-clause-ring g c = record { sound = c.lemma_board.ensures; one_hive = c.requires.shrunk.still; within = c.requires.within; mask = c.neighbours-mask.ensures.mask }

pub removed_beside-requires-clause-arc : goal.removed_beside-requires-clause-arc
removed_beside-requires-clause-arc g c = arc_mask (g.B.Board.stacks c.args.board.now) c.args.place c.neighbours-mask.result c.neighbours-mask.ensures.mask (sym c.arcs.ensures ∙ c.if-arcs-eq1.true)
