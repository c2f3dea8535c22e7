use Rattle.std.proofs.Common.{◌+◌, ◌++◌, ap, arith, ◌∙◌}
use Rattle.cup.proofs.Games.{row_left, row-skip, row-push}
use Rattle.cup.proofs.pairing.push_row.Goals as goal

pub loop-black-preserved-then-black-white : goal.loop-black-preserved-then-black-white
loop-black-preserved-then-black-white c =
    row-skip c.args.engines c.args.white c.loop-black.black c.loop-black.games.items _ (omega (arith, c.loop-black-test.true)) c.if-black-white.true c.loop-black.invariant

pub loop-black-preserved : goal.loop-black-preserved
loop-black-preserved c =
    ap (λ xs. xs ++ row_left c.args.engines c.args.white (c.loop-black.black + 1)) c.in_ok-push.ensures.items
    ∙ row-push c.args.engines c.args.white c.loop-black.black c.loop-black.games.items _ (omega (arith, c.loop-black-test.true)) c.if-black-white.false c.loop-black.invariant
