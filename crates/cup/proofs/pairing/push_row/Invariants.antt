use Rattle.std.proofs.Common.{◌≡◌, ◌++◌}
use Rattle.cup.specs.Cup.{row}
use Rattle.cup.proofs.Games.{row_left}
use Rattle.cup.proofs.pairing.push_row.Given as goal

abbrev pub invariant-loop-black : goal.invariant-loop-black
invariant-loop-black l = l.games.items ++ row_left l.engines l.white l.black ≡ l.fn.games.items ++ row l.engines l.white
