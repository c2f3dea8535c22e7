use Rattle.std.proofs.Common.{◌∙◌, IsTrue, sym, subst}
use Rattle.cut_keeper.specs.Keeping.{Keeps}
use Rattle.leaf_worth.specs.After.{HasTwo}
use Rattle.leaf_worth.specs.Bases.{WithoutFacts}
use Rattle.leaf_worth.proofs.ValuesAfter.{told_value}
use Rattle.leaf_worth.proofs.board_without.BoardWithout.value_after.Goals as goal

pub new-known-requires : goal.new-known-requires
new-known-requires g c = subst (λ (f : WithoutFacts). Keeps (g.B.Board.stacks c.args.board.now) f.keeper) (sym c.self.view_is) c.requires.found.stands

pub worth_after_put-requires-clause-two : goal.worth_after_put-requires-clause-two
worth_after_put-requires-clause-two g c = subst (λ (f : WithoutFacts). IsTrue f.two → HasTwo (g.B.Board.stacks c.new-known.result.board.now)) (sym c.self.view_is) (subst (λ b. IsTrue c.args.self.now.two → HasTwo b) (sym c.new-known.ensures) c.requires.found.two)

pub returns : goal.returns
returns g c = λ p board turned.
    told_value c.worth_after_put.result (g.B.Board.stacks c.new-known.result.board.now) c.args.piece c.args.place c.args.side c.worth_after_put.ensures.worth c.worth_after_put.ensures.white c.worth_after_put.ensures.black
    p (board ∙ sym c.new-known.ensures) turned
