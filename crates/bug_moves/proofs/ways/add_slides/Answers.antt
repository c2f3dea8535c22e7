use Rattle.bug_moves.proofs.Gaining.{gains_next, gains_all}
use Rattle.bug_moves.proofs.ways.add_slides.Goals as goal

pub loop-dir-preserved : goal.loop-dir-preserved
loop-dir-preserved g c =
    let b = g.B.Board.stacks c.args.board.now in
    gains_next b (g.W.GroundWay.toward c.args.way.now b c.args.from) c.loop-dir.dir-index c.args.out.now.items c.loop-dir.out.items c.add.new.out.items c.loop-dir.invariant c.add.ensures

pub returns : goal.returns
returns g c =
    let b = g.B.Board.stacks c.args.board.now in
    gains_all b (g.W.GroundWay.toward c.args.way.now b c.args.from) c.loop-dir.dir-index c.args.out.now.items c.loop-dir.out.items c.loop-dir-test.false c.loop-dir.invariant
