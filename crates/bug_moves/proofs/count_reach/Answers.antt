use Rattle.std.proofs.Common.{sym, arith}
use Rattle.bug_moves.proofs.KindLaws.{ants_counted}
use Rattle.bug_moves.proofs.count_reach.Goals as goal

pub returns-then-is : goal.returns-then-is
returns-then-is g c =
    let b = g.B.Board.stacks c.args.board.now in
    ants_counted c.args.kind b c.args.from c.count_ant_ways.result c.is.result c.is.ensures c.if-is.true c.count_ant_ways.ensures

pub returns : goal.returns
returns g c =
    let b = g.B.Board.stacks c.args.board.now in
    record {
      places = c.reach.new.out.items;
      all = c.reach.ensures;
      few = (let v = c.len.ensures.value in let f = c.len.ensures.fits in omega (arith, v, f));
      many = sym c.len.ensures.value;
    }
