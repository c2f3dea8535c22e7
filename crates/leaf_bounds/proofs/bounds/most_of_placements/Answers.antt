use Rattle.std.proofs.Common.{◌≤◌, ◌∙◌, arith, sym, subst}
use Rattle.std.specs.Prelude.{None}
use Rattle.hive_model.specs.Placement.{HasColour}
use Rattle.hive_model.specs.Pieces.{other_side}
use Rattle.leaf_worth.specs.Held.{held_weight}
use Rattle.leaf_bounds.proofs.MostAfter.{held_few}
use Rattle.leaf_bounds.proofs.ToldMost.{stripped, placements_told}
use Rattle.leaf_bounds.proofs.bounds.most_of_placements.Goals as goal

pub turned_worth-requires-clause-few : goal.turned_worth-requires-clause-few
turned_worth-requires-clause-few g c =
    let few = held_few (g.B.Board.stacks c.args.board.now) None (other_side c.args.side) in
    let held = c.requires.held in
    omega (arith, few, held)

pub returns : goal.returns
returns g c =
    let b = g.B.Board.stacks c.args.board.now in
    let most : held_weight b None (other_side c.args.side) ≤ 280 = held_few b None (other_side c.args.side) in
    let held = c.requires.held in
    let few : c.args.held ≤ 320 = omega (arith, most, held) in
    placements_told b c.lemma_board.ensures c.args.side c.requires.white c.requires.black (c.requires.found.two (sym c.has_two.ensures ∙ c.if-not-has_two.false))
    (subst (HasColour b) c.other.ensures (c.has_own.ensures c.if-not-has_own.false)) (c.is_queen_open.ensures c.if-not-is_queen_open.false)
    _ c.args.held (stripped b (other_side c.args.side) c.turned_worth.result c.args.held c.turned_worth.ensures few) c.requires.held
