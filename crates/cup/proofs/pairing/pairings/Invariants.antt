use Rattle.std.proofs.Common.{◌≡◌, ◌++◌}
use Rattle.cup.specs.Cup.{pairings}
use Rattle.cup.proofs.Games.{rows_left}
use Rattle.cup.proofs.pairing.pairings.Given as goal

abbrev pub invariant-loop-white : goal.invariant-loop-white
invariant-loop-white l = l.games.items ++ rows_left l.engines l.white ≡ pairings l.engines
