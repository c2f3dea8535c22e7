use Rattle.std.proofs.Common.{◌+◌, ◌++◌, ap, arith, ◌∙◌}
use Rattle.cup.proofs.Games.{rows_left, rows-push}
use Rattle.cup.proofs.pairing.pairings.Goals as goal

pub loop-white-preserved : goal.loop-white-preserved
loop-white-preserved c =
    ap (λ xs. xs ++ rows_left c.args.engines (c.loop-white.white + 1)) c.in_ok-push_row.ensures
    ∙ rows-push c.args.engines c.loop-white.white c.loop-white.games.items _ (omega (arith, c.loop-white-test.true)) c.loop-white.invariant
