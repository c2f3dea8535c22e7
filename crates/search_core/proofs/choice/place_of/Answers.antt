use Rattle.std.proofs.Common.{arith}
use Rattle.search_core.proofs.Hints.{none-on}
use Rattle.search_core.proofs.choice.place_of.Goals as goal

pub returns-clause-none : goal.returns-clause-none
returns-clause-none c = λ _. none-on _ c.loop-i.i c.args.m.now (omega (arith, c.loop-i-test.false, c.level_len-i-end.ensures)) c.loop-i.invariant
