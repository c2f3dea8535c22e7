use Rattle.std.proofs.Common.{length, ap, sym, ◌∙◌, subst}
use Rattle.hive_model.specs.Boards.{height_at}
use Rattle.hive_model.specs.Spots.{board_of}
use Rattle.torus_board.specs.Grid.{HasTowers}
use Rattle.torus_board.proofs.TorusBoard.height.Goals as goal

pub height_in-requires-clause-many : goal.height_in-requires-clause-many
height_in-requires-clause-many g c = ap length c.deref.ensures.value ∙ c.self.invariant.5.many

pub returns : goal.returns
returns g c =
    let b = board_of c.self.inside.spots in
    c.height_in.ensures b (subst (HasTowers g.row.SIDE b) (sym c.deref.ensures.value) c.self.invariant.5) ∙ ap (λ b. height_at b c.args.place) c.self.view_is
