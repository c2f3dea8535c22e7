use Rattle.std.proofs.Common.{arith}
use Rattle.search_laws.proofs.NodeLaws.{room-within}
use Rattle.win_solver.proofs.reaching.deepen.Goals as goal

pub reaches-requires-clause-room : goal.reaches-requires-clause-room
reaches-requires-clause-room g c =
    room-within _ _ _ _ c.args.depth c.loop-shallow.shallow (omega (arith, c.loop-shallow-test.true)) c.requires.room c.loop-shallow.invariant.before
