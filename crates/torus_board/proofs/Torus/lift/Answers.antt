use Rattle.hive_model.specs.Spots.{board_of}
use Rattle.torus_board.specs.Grid.{HasTowers, IsRinged}
use Rattle.std.proofs.lemmas.List.{take_at}
use Rattle.std.proofs.Common.{length, ap, sym, ◌∙◌, subst, ℕ, ◌<◌}
use Rattle.torus_board.proofs.Kept.{but_rings, and_rings, lift_kept, lift_made, lift_turned}
use Rattle.torus_board.proofs.Torus.lift.Goals as goal

pub invariant_of-self : goal.invariant_of-self
invariant_of-self g c =
    let kept = lift_kept g.row.SIDE c.self.inside.spots c.self.inside.below c.self.inside.towers.items (but_rings c.self.invariant) c.args.self.now c.self.view_is c.args.piece (subst (λ (z : ℕ). z < 28) c.index.ensures.index c.index.ensures.bound)
    c.in-Some.spot (sym c.in-Some.ensures.answer) c.requires c.index_in-index.result c.index.result c.index-in-Some.result c.under_in-below.result
    c.index_in-index.ensures.index c.index.ensures.index c.index-in-Some.ensures.index c.under_in-below.ensures in
    let b = board_of c.self.inside.spots in
    let ringed = c.renew_round.ensures b _ (subst (HasTowers g.row.SIDE _) (sym c.deref.ensures.value) kept.5) (subst (IsRinged g.row.SIDE b) (sym c.deref_mut.ensures.value) c.self.invariant.6)
    (lift_turned g.row.SIDE c.self.inside.spots c.self.inside.below c.self.inside.towers.items (but_rings c.self.invariant) c.args.self.now c.self.view_is c.args.piece (subst (λ (z : ℕ). z < 28) c.index.ensures.index c.index.ensures.bound)
    c.in-Some.spot (sym c.in-Some.ensures.answer) c.requires c.index_in-index.result c.index.result c.index-in-Some.result c.under_in-below.result
    c.index_in-index.ensures.index c.index.ensures.index c.index-in-Some.ensures.index c.under_in-below.ensures) in
    and_rings kept (subst (IsRinged g.row.SIDE _) (sym (take_at c.renew_round.new.rings _ _ (ringed.many ∙ sym c.self.invariant.6.many ∙ sym (ap length c.deref_mut.ensures.value) ∙ c.deref_mut.ensures.len))) ringed)

pub returns-clause-lifted : goal.returns-clause-lifted
returns-clause-lifted g c =
    lift_made g.row.SIDE c.self.inside.spots c.self.inside.below c.self.inside.towers.items (but_rings c.self.invariant) c.args.self.now c.self.view_is c.args.piece (subst (λ (z : ℕ). z < 28) c.index.ensures.index c.index.ensures.bound)
    c.in-Some.spot (sym c.in-Some.ensures.answer) c.requires c.index_in-index.result c.index.result c.index-in-Some.result c.under_in-below.result
    c.index_in-index.ensures.index c.index.ensures.index c.index-in-Some.ensures.index c.under_in-below.ensures
