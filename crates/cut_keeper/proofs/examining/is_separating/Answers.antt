use Rattle.std.proofs.Common.{◌≡◌, sym, ◌∙◌, subst, to_z, of_z, w32, rules}
use Rattle.std.specs.Prelude.{IfSome}
use Rattle.std.proofs.lemmas.Int.{to_z-of_z}
use Rattle.euler.specs.Counting.{TellsBeside}
use Rattle.cut_keeper.proofs.examining.is_separating.Goals as goal

pub returns-in-Some-clause-cut : goal.returns-in-Some-clause-cut
returns-in-Some-clause-cut g c =
    let round : to_z w32 (of_z w32 c.args.number) ≡ c.args.number = to_z-of_z w32 c.args.number (search rules) in
    let tells = subst (λ o. IfSome o (TellsBeside c.neighbours.result (to_z w32 (of_z w32 c.args.number)))) c.in-Some.is c.told_by_arcs.ensures.told in
    tells (g.B.Board.stacks c.args.board.now) c.lemma_board.ensures c.requires.one_hive (sym c.requires.number ∙ sym round) c.args.place c.requires.occupied c.neighbours.ensures.mask
