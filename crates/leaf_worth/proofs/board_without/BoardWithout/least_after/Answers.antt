use Rattle.std.proofs.Common.{◌∙◌, sym, subst}
use Rattle.cut_keeper.specs.Keeping.{Keeps}
use Rattle.leaf_worth.specs.Bases.{WithoutFacts}
use Rattle.leaf_worth.proofs.ValuesAfter.{told_least, told_is_least}
use Rattle.leaf_worth.proofs.board_without.BoardWithout.least_after.Goals as goal

pub new-known-requires : goal.new-known-requires
new-known-requires g c = subst (λ (f : WithoutFacts). Keeps (g.B.Board.stacks c.args.board.now) f.keeper) (sym c.self.view_is) c.requires.found.stands

pub returns-in-Some : goal.returns-in-Some
returns-in-Some g c = λ p board turned.
    told_is_least c.in-Some.worth (g.B.Board.stacks c.new-known.result.board.now) c.args.piece c.args.place c.args.side c.in-Some.ensures.worth c.in-Some.ensures.white c.in-Some.ensures.black p (board ∙ sym c.new-known.ensures) turned

pub returns-in-None : goal.returns-in-None
returns-in-None g c = λ p board turned.
    told_least c.least_after_put.result (g.B.Board.stacks c.new-known.result.board.now) c.args.piece c.args.place c.args.side c.least_after_put.ensures.least c.least_after_put.ensures.white c.least_after_put.ensures.black p (board ∙ sym c.new-known.ensures) turned
