use Rattle.std.proofs.Common.{sym, subst}
use Rattle.cut_keeper.specs.Keeping.{Keeps}
use Rattle.leaf_worth.specs.Bases.{WithoutFacts}
use Rattle.leaf_worth.proofs.board_without.BoardWithout.held.Goals as goal

pub new-requires : goal.new-requires
new-requires g c = subst (λ (f : WithoutFacts). Keeps (g.B.Board.stacks c.args.board.now) f.keeper) (sym c.self.view_is) c.requires
