use Rattle.std.proofs.Common.{◌+◌, ◌<◌, ◌≤◌, ◌∙◌, arith, sym, subst}
use Rattle.std.proofs.lemmas.Bool.{eqb-false}
use Rattle.hive_model.specs.Pieces.{other_side}
use Rattle.leaf_worth.proofs.SpotsAfter.{nothing_there}
use Rattle.std.specs.Prelude.{None}
use Rattle.leaf_bounds.proofs.MostAfter.{held_few}
use Rattle.leaf_bounds.proofs.ToldMost.{stripped, piece_told}
use Rattle.leaf_bounds.proofs.bounds.most_of_piece.Goals as goal

pub at_least_one-requires : goal.at_least_one-requires
at_least_one-requires g c = subst (λ n. n ≤ 280) (sym c.requires.held) (held_few (g.B.Board.stacks c.args.board.now) None (other_side c.args.side))

pub returns : goal.returns
returns g c =
    let b = g.B.Board.stacks c.args.board.now in
    let low = subst (λ n. n < 28) c.index-number.ensures.index c.index-number.ensures.bound in
    let own = c.in-Some.ensures.most in
    let two = c.at_least_one.ensures.few in
    let few : c.in-Some.gain + c.at_least_one.result ≤ 320 = omega (arith, own, two) in
    piece_told b c.lemma_board.ensures c.args.side c.requires.white c.requires.black (c.requires.found.two (sym c.has_two.ensures ∙ c.if-not-has_two.false))
    c.args.piece low (nothing_there _ c.requires.absent) (λ e. eqb-false _ _ (sym c.if-eq.ensures) (e ∙ sym c.queen.ensures)) c.at_least_one.result c.args.held c.at_least_one.ensures.most c.requires.held
    _ c.in-Some.ensures.few c.in-Some.gain (stripped b (other_side c.args.side) c.turned_worth.result (c.in-Some.gain + c.at_least_one.result) c.turned_worth.ensures few) c.in-Some.ensures.gain
