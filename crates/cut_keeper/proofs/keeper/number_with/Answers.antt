use Rattle.std.proofs.Common.{◌<◌, ◌≤◌, ◌∙◌, ap, subst}
use Rattle.cut_keeper.specs.Keeping.{Kept}
use Rattle.cut_keeper.proofs.NumberLaws.{put_above, put_alone, sum_fits}
use Rattle.cut_keeper.proofs.keeper.number_with.Goals as goal

pub returns-then-height-gt1 : goal.returns-then-height-gt1
returns-then-height-gt1 g c =
    let grown = c.requires.grown in
    put_above grown.before (g.B.Board.stacks c.args.board.now) c.args.piece c.args.place grown.made grown.sound c.keeper.inside.number (ap (λ (k : Kept). k.number) c.keeper.view_is ∙ grown.stood.0) (subst (◌<◌ 1) c.height.ensures c.if-height-gt1.true)

pub overflow_add-result : goal.overflow_add-result
overflow_add-result g c =
    let grown = c.requires.grown in
    sum_fits grown.before grown.sound c.keeper.inside.number c.added_by.result (ap (λ (k : Kept). k.number) c.keeper.view_is ∙ grown.stood.0) c.added_by.ensures.low c.added_by.ensures.high

pub returns : goal.returns
returns g c =
    let grown = c.requires.grown in
    put_alone grown.before (g.B.Board.stacks c.args.board.now) c.args.piece c.args.place grown.made grown.sound c.keeper.inside.number c.added_by.result c.added_by.ensures.low c.added_by.ensures.high (ap (λ (k : Kept). k.number) c.keeper.view_is ∙ grown.stood.0) (subst (λ n. n ≤ 1) c.height.ensures c.if-height-gt1.false) c.added_by.ensures.added
