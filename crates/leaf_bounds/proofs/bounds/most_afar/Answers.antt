use Rattle.std.proofs.Common.{◌<◌, ◌≤◌, ◌∙◌, arith, sym, subst}
use Rattle.std.proofs.lemmas.Bool.{eqb-false}
use Rattle.std.specs.Prelude.{None}
use Rattle.hive_model.specs.Pieces.{other_side}
use Rattle.leaf_worth.proofs.SpotsAfter.{nothing_there}
use Rattle.leaf_bounds.proofs.MostAfter.{held_few}
use Rattle.leaf_bounds.proofs.ToldMost.{stripped, afar_told}
use Rattle.leaf_bounds.proofs.bounds.most_afar.Goals as goal

pub at_least_one-most-requires : goal.at_least_one-most-requires
at_least_one-most-requires g c = subst (λ n. n ≤ 280) (sym c.requires.held) (held_few (g.B.Board.stacks c.args.board.now) None (other_side c.args.side))

pub returns : goal.returns
returns g c =
    let b = g.B.Board.stacks c.args.board.now in
    let low = subst (λ n. n < 28) c.index-number.ensures.index c.index-number.ensures.bound in
    let two = c.at_least_one-most.ensures.few in
    let few : c.at_least_one-most.result ≤ 320 = omega (arith, two) in
    afar_told b c.lemma_board.ensures c.args.side c.requires.white c.requires.black (c.requires.found.two (sym c.has_two.ensures ∙ c.if-not-has_two.false))
    c.args.piece low (nothing_there _ c.requires.absent) (λ e. eqb-false _ _ (sym c.if-eq.ensures) (e ∙ sym c.queen.ensures)) c.at_least_one-most.result c.args.held c.at_least_one-most.ensures.most c.requires.held
    _ (stripped b (other_side c.args.side) c.turned_worth.result c.at_least_one-most.result c.turned_worth.ensures few)
