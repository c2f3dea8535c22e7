use Rattle.cut_keeper.proofs.KeepingLaws.{undoubted}
use Rattle.cut_keeper.proofs.examining.examine_doubted.Goals as goal

pub returns-else-is_set-doubted-clause-right : goal.returns-else-is_set-doubted-clause-right
returns-else-is_set-doubted-clause-right g c =
    undoubted (g.B.Board.stacks c.args.board.now) c.args.marks.now c.args.at.place c.args.at.top c.is_set.result c.args.doubted c.requires.top c.is_set.ensures c.if-is_set-doubted.false c.requires.half
