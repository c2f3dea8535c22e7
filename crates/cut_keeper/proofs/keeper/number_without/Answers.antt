use Rattle.std.proofs.Common.{◌<◌, ◌≤◌, ◌∙◌, ap, subst}
use Rattle.cut_keeper.specs.Keeping.{Kept}
use Rattle.cut_keeper.proofs.NumberLaws.{taken_above, taken_alone, difference_fits}
use Rattle.cut_keeper.proofs.keeper.number_without.Goals as goal

pub returns-then-height-gt0 : goal.returns-then-height-gt0
returns-then-height-gt0 g c =
    let shrunk = c.requires.shrunk in
    taken_above (g.B.Board.stacks c.args.board.now) shrunk.before c.args.piece c.args.place shrunk.made c.lemma_board.ensures c.keeper.inside.number (ap (λ (k : Kept). k.number) c.keeper.view_is ∙ shrunk.stood.0) (subst (◌<◌ 0) c.height.ensures c.if-height-gt0.true)

pub overflow_sub-result : goal.overflow_sub-result
overflow_sub-result g c =
    let shrunk = c.requires.shrunk in
    difference_fits shrunk.before shrunk.sound c.keeper.inside.number c.added_by.result (ap (λ (k : Kept). k.number) c.keeper.view_is ∙ shrunk.stood.0) c.added_by.ensures.low c.added_by.ensures.high

pub returns : goal.returns
returns g c =
    let shrunk = c.requires.shrunk in
    taken_alone (g.B.Board.stacks c.args.board.now) shrunk.before c.args.piece c.args.place shrunk.made c.lemma_board.ensures c.keeper.inside.number c.added_by.result c.added_by.ensures.low c.added_by.ensures.high (ap (λ (k : Kept). k.number) c.keeper.view_is ∙ shrunk.stood.0) (subst (λ n. n ≤ 0) c.height.ensures c.if-height-gt0.false) c.added_by.ensures.added
