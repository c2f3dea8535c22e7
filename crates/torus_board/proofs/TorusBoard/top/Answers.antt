use Rattle.std.proofs.Common.{length, ap, sym, ◌∙◌, subst}
use Rattle.hive_model.specs.Boards.{top_at}
use Rattle.hive_model.specs.Spots.{board_of}
use Rattle.torus_board.specs.Grid.{HasTowers}
use Rattle.torus_board.proofs.TorusBoard.top.Goals as goal

pub top_in-requires-clause-many : goal.top_in-requires-clause-many
top_in-requires-clause-many g c = ap length c.deref.ensures.value ∙ c.self.invariant.5.many

pub returns : goal.returns
returns g c =
    let b = board_of c.self.inside.spots in
    c.top_in.ensures b (subst (HasTowers g.row.SIDE b) (sym c.deref.ensures.value) c.self.invariant.5) ∙ ap (λ b. top_at b c.args.place) c.self.view_is
