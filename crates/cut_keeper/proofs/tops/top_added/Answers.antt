use Rattle.std.proofs.Common.{refl}
use Rattle.cut_keeper.proofs.TopLaws.{added_above, added_alone}
use Rattle.cut_keeper.proofs.tops.top_added.Goals as goal

pub returns-in-Some : goal.returns-in-Some
returns-in-Some g c =
    let h = c.requires.grown in
    added_above h.before (g.B.Board.stacks c.args.board.now) c.args.piece c.args.place h.sound c.requires.sound h.made c.args.tops.now c.give-in-Some.new.self c.give.new.self c.give.ensures.others
    c.in-Some.below c.in-Some.ensures h.stood (c.give.ensures.given.1 refl) c.give-in-Some.ensures.given c.give-in-Some.ensures.others

pub returns-in_default : goal.returns-in_default
returns-in_default g c =
    let h = c.requires.grown in
    added_alone h.before (g.B.Board.stacks c.args.board.now) c.args.piece c.args.place h.sound c.requires.sound h.made c.args.tops.now c.give.new.self
    c.in_default.ensures h.stood (c.give.ensures.given.1 refl) c.give.ensures.others
