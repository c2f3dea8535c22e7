use Rattle.cut_keeper.proofs.TopLaws.{high_grown}
use Rattle.cut_keeper.proofs.tops.high_added.Goals as goal

pub returns : goal.returns
returns g c =
    let h = c.requires.grown in
    high_grown h.before (g.B.Board.stacks c.args.board.now) c.args.piece c.args.place h.sound c.requires.sound h.made c.args.high.now c.give.new.self
    h.stood c.height-is_high.result c.height-is_high.ensures c.give.ensures.given c.give.ensures.others
