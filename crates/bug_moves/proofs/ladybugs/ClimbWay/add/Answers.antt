use Rattle.bug_moves.specs.Ways.{OnTop}
use Rattle.bug_moves.proofs.Gaining.{climb_within, gains_onward, gains_not_onward}
use Rattle.bug_moves.proofs.TakenLaws.{is_taken, not_taken}
use Rattle.bug_moves.proofs.ladybugs.ClimbWay.add.Goals as goal

pub returns-then-not-has_dir : goal.returns-then-not-has_dir
returns-then-not-has_dir g c =
    let b = g.B.Board.stacks c.args.board.now in
    gains_not_onward b (OnTop b c.args.from) (g.W.Way.toward c.args.self.now.then b) c.args.from c.args.dir c.args.out.now.items c.requires.list
    (λ h. not_taken b c.args.from c.args.dir c.args.taken c.requires.taken c.has_dir.ensures c.if-not-has_dir.true h.0)

pub returns-then-may_climb_amid : goal.returns-then-may_climb_amid
returns-then-may_climb_amid g c =
    let b = g.B.Board.stacks c.args.board.now in
    gains_onward b (OnTop b c.args.from) (g.W.Way.toward c.args.self.now.then b) c.args.from c.args.dir c.step-to.result c.args.out.now.items c.add_ways.new.out.items c.step-to.ensures
    (is_taken b c.args.from c.args.dir c.step-to.result c.args.taken c.requires.taken c.step-to.ensures c.has_dir.ensures c.if-not-has_dir.false, c.may_climb_amid.ensures.0 c.if-may_climb_amid.true) c.add_ways.ensures

pub add_ways-requires-clause-within : goal.add_ways-requires-clause-within
add_ways-requires-clause-within g c =
    climb_within (g.B.Board.stacks c.args.board.now) c.args.from c.step-to.result c.args.out.now.items c.requires.list (c.may_climb_amid.ensures.0 c.if-may_climb_amid.true)
