use Rattle.std.proofs.Common.{sym, subst, ℕ, ◌<◌}
use Rattle.hive_model.specs.Boards.{is_occupied}
use Rattle.hive_model.specs.Neighbours.{ring}
use Rattle.hive_model.specs.Spots.{board_of}
use Rattle.torus_board.specs.Grid.{HasTowers, IsRinged}
use Rattle.torus_board.proofs.RingLaws.{mask_small}
use Rattle.torus_board.proofs.TorusBoard.neighbours.Goals as goal

pub returns-clause-bound : goal.returns-clause-bound
returns-clause-bound g c =
    let b = board_of c.self.inside.spots in
    subst (λ (m : ℕ). m < 64) (sym (c.mask_in.ensures.mask b (subst (HasTowers g.row.SIDE b) (sym c.deref-2.ensures.value) c.self.invariant.5) (subst (IsRinged g.row.SIDE b) (sym c.deref.ensures.value) c.self.invariant.6)))
    (mask_small (ring (is_occupied b) c.args.place))
