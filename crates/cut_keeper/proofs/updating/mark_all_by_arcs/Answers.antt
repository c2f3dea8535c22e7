use Rattle.std.proofs.Common.{◌≡◌, arith, subst}
use Rattle.cut_keeper.proofs.KeepingLaws.{AreMarked, next_marked, all_marked}
use Rattle.cut_keeper.proofs.updating.mark_all_by_arcs.Goals as goal

pub loop-x-init : goal.loop-x-init
loop-x-init g c y low = absurd (omega (arith, low))

pub loop-x-preserved : goal.loop-x-preserved
loop-x-preserved g c =
    next_marked (g.B.Board.stacks c.args.board.now) c.loop-x.marks c.mark_by_arcs.new.marks c.loop-x.x c.at.result c.at.ensures c.loop-x.invariant c.mark_by_arcs.ensures.here c.mark_by_arcs.ensures.others

pub returns : goal.returns
returns g c =
    let b = g.B.Board.stacks c.args.board.now in
    let all : c.loop-x.x ≡ 28 = omega (arith, c.loop-x-test.false, c.loop-x.auto.x-end) in
    all_marked b c.lemma_board.ensures c.loop-x.marks (subst (AreMarked b c.loop-x.marks) all c.loop-x.invariant)
