use Rattle.std.proofs.Common.{sym, subst}
use Rattle.board_game.specs.Reaches.{IsReach}
use Rattle.board_game.proofs.lookahead.Lookahead.reach_of.Goals as goal

pub returns-clause-known : goal.returns-clause-known
returns-clause-known g c =
    let found = c.find_reach-found.ensures in
    record {
      whole = found.known.whole;
      asked = found.known.asked;
      reach = subst (IsReach (g.B.Board.stacks c.args.board.now) c.args.side) (sym c.again.ensures) found.reach;
      placing = found.known.placing;
    }
