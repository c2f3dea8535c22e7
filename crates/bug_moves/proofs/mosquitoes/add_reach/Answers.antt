use Rattle.std.proofs.Common.{◌≤◌, arith, length}
use Rattle.bug_moves.proofs.Gaining.{room_for}
use Rattle.bug_moves.proofs.Copying.{got_at_hive, among_next, among_all}
use Rattle.bug_moves.proofs.mosquitoes.add_reach.Goals as goal

pub add_new-requires-clause-room : goal.add_new-requires-clause-room
add_new-requires-clause-room g c =
    let b = g.B.Board.stacks c.args.board.now in
    let near = got_at_hive c.args.kind b c.args.from c.reach.new.out.items c.loop-index.index c.place_at-place.result c.reach.ensures.exact c.place_at-place.ensures in
    room_for b c.place_at-place.result c.loop-index.out.items c.loop-index.invariant.list near

pub loop-index-preserved : goal.loop-index-preserved
loop-index-preserved g c =
    let b = g.B.Board.stacks c.args.board.now in
    let near = got_at_hive c.args.kind b c.args.from c.reach.new.out.items c.loop-index.index c.place_at-place.result c.reach.ensures.exact c.place_at-place.ensures in
    among_next b c.reach.new.out.items c.loop-index.index c.place_at-place.result c.args.out.now.items c.loop-index.out.items c.add_new.new.found.items c.loop-index.invariant c.place_at-place.ensures near c.add_new.ensures.found

pub returns : goal.returns
returns g c =
    let b = g.B.Board.stacks c.args.board.now in
    let all : length c.reach.new.out.items ≤ c.loop-index.index = omega (arith, c.len-many.ensures.value, c.loop-index-test.false) in
    among_all c.args.kind b c.args.from c.reach.new.out.items c.loop-index.index c.args.out.now.items c.loop-index.out.items all c.reach.ensures.exact c.loop-index.invariant
