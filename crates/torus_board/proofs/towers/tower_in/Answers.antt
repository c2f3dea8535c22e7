use Rattle.std.proofs.Common.{ℕ, ◌<◌, sym, ◌∙◌, subst}
use Rattle.hive_model.proofs.PlaceLemmas.{same_place, false_place}
use Rattle.torus_board.proofs.TowerLaws.{its_tower, no_tower_there}
use Rattle.torus_board.proofs.towers.tower_in.Goals as goal

pub cell_in-tower-requires : goal.cell_in-tower-requires
cell_in-tower-requires c = subst (λ (m : ℕ). c.index_in.result < m) (sym c.requires.many) c.index_in.ensures.bound

pub returns-then-is : goal.returns-then-is
returns-then-is c b has =
    its_tower c.args.side b c.args.towers.now has c.args.place c.index_in.result c.index_in.ensures.index c.cell_in-tower.result c.cell_in-tower.ensures
    (same_place c.cell_in-tower.result.place c.args.place (sym c.is.ensures ∙ c.if-is.true))

pub returns-else-is : goal.returns-else-is
returns-else-is c b has =
    no_tower_there c.args.side b c.args.towers.now has c.args.place c.index_in.result c.index_in.ensures.index c.cell_in-tower.result c.cell_in-tower.ensures
    (false_place c.cell_in-tower.result.place c.args.place (sym c.is.ensures ∙ c.if-is.false))
