use Rattle.std.proofs.Common.{◌≡◌, arith}
use Rattle.bug_moves.specs.Copied.{CopiesKind}
use Rattle.bug_moves.proofs.Copying.{kinds_next, kinds_all, copied_at}
use Rattle.bug_moves.proofs.mosquitoes.copy_neighbours.Goals as goal

pub copy_kind-requires-clause-kind : goal.copy_kind-requires-clause-kind
copy_kind-requires-clause-kind g c = copied_at c.loop-kind.kind-index c.loop-kind-test.true

pub loop-kind-preserved : goal.loop-kind-preserved
loop-kind-preserved g c =
    let b = g.B.Board.stacks c.args.board.now in
    kinds_next b (CopiesKind b c.args.from) c.loop-kind.kind-index c.args.out.now.items c.loop-kind.out.items c.copy_kind.new.out.items c.loop-kind.invariant c.copy_kind.ensures

pub returns : goal.returns
returns g c =
    let b = g.B.Board.stacks c.args.board.now in
    let all : c.loop-kind.kind-index ≡ 7 = omega (arith, c.loop-kind-test.false, c.loop-kind.auto.kind-index-end) in
    kinds_all b c.args.from c.loop-kind.kind-index c.args.out.now.items c.loop-kind.out.items all c.loop-kind.invariant
