use Rattle.std.proofs.Common.{sym, ◌∙◌}
use Rattle.cut_keeper.proofs.RingLaws.{arc_mask}
use Rattle.cut_keeper.proofs.updating.added.Goals as goal

pub added_beside-requires-clause-ring : goal.added_beside-requires-clause-ring
added_beside-requires-clause-ring g c = record { sound = c.lemma_board.ensures; one_hive = c.requires.grown.still; within = c.requires.within; mask = c.neighbours-mask.ensures.mask }

pub added_beside-requires-clause-arc : goal.added_beside-requires-clause-arc
added_beside-requires-clause-arc g c = arc_mask (g.B.Board.stacks c.args.board.now) c.args.place c.neighbours-mask.result c.neighbours-mask.ensures.mask (sym c.arcs.ensures ∙ c.if-arcs-eq1.true)
