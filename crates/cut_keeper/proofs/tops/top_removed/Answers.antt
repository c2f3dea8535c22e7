use Rattle.std.proofs.Common.{◌≡◌, true, false, refl, sym}
use Rattle.cut_keeper.proofs.TopLaws.{removed_above, removed_alone}
use Rattle.cut_keeper.proofs.tops.top_removed.Goals as goal

pub returns-in-Some : goal.returns-in-Some
returns-in-Some g c =
    let h = c.requires.shrunk in
    removed_above (g.B.Board.stacks c.args.board.now) h.before c.args.piece c.args.place c.requires.sound h.sound h.made c.args.tops.now c.give-in-Some.new.self c.give.new.self c.give.ensures.others
    c.in-Some.top (sym c.in-Some.ensures) h.stood (λ set. let wrong : false ≡ true = c.give.ensures.given.0 set in cc) (c.give-in-Some.ensures.given.1 refl) c.give-in-Some.ensures.others

pub returns-in_default : goal.returns-in_default
returns-in_default g c =
    let h = c.requires.shrunk in
    removed_alone (g.B.Board.stacks c.args.board.now) h.before c.args.piece c.args.place c.requires.sound h.sound h.made c.args.tops.now c.give.new.self
    c.in_default.ensures h.stood (λ set. let wrong : false ≡ true = c.give.ensures.given.0 set in cc) c.give.ensures.others
