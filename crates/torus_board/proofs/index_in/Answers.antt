use Rattle.std.proofs.Common.{arith}
use Rattle.torus_board.proofs.Cells.{number_below, number_small}
use Rattle.torus_board.proofs.index_in.Goals as goal

pub overflow_mul-result : goal.overflow_mul-result
overflow_mul-result c =
    let h = number_small c.args.side c.residue.result 0 c.requires.small c.residue.ensures.bound c.requires.some in
    omega (arith, h)

pub overflow_add-result : goal.overflow_add-result
overflow_add-result c =
    let h = number_small c.args.side c.residue.result c.residue-2.result c.requires.small c.residue.ensures.bound c.residue-2.ensures.bound in
    omega (arith, h)

pub returns-clause-bound : goal.returns-clause-bound
returns-clause-bound c = number_below c.args.side c.residue.result c.residue-2.result c.residue.ensures.bound c.residue-2.ensures.bound
