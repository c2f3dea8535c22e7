use Rattle.std.proofs.Common.{◌∙◌, sym, subst, arith}
use Rattle.hive_model.specs.Places.{IsWithin}
use Rattle.hive_model.proofs.PlaceLemmas.{wider}
use Rattle.win_bounds.proofs.SeenLaws.{seen_free, seen_taken, seen_all, fifth_near, thrower_near}
use Rattle.win_bounds.proofs.ThrowLaws.{step_near}
use Rattle.win_bounds.proofs.far.is_far_place.Goals as goal
use Rattle.win_bounds.proofs.far.is_far_place.Goals.{then-occupied-eq4-via-then-occupied-eq4, then-occupied-eq4-via-else-occupied-eq4+then-throws_in}

pub loop-dir-preserved-in_default : goal.loop-dir-preserved-in_default
loop-dir-preserved-in_default g c =
    let seen = c.loop-dir.invariant in
    seen_free _ _ _ _ _ c.loop-dir-test.true seen _ c.step-place.ensures _ c.top.ensures c.in_default.is

pub returns-then-occupied-eq4 : goal.returns-then-occupied-eq4
returns-then-occupied-eq4 g c =
    let seen = c.loop-dir.invariant in
    elim c.then-occupied-eq4.branch [
      | then-occupied-eq4-via-then-occupied-eq4 w ↦ fifth_near _ _ _ _ _ c.loop-dir-test.true seen _ c.step-place.ensures _ c.top.ensures _ c.in-Some.is w.if-occupied-eq4.true
      | then-occupied-eq4-via-else-occupied-eq4+then-throws_in w ↦
          thrower_near _ _ _ _ _ c.loop-dir-test.true seen _ c.step-place.ensures _ c.top.ensures _ c.in-Some.is (sym w.throws_in.ensures ∙ w.if-throws_in.true)
    ]

pub loop-dir-preserved : goal.loop-dir-preserved
loop-dir-preserved g c =
    let seen = c.loop-dir.invariant in
    seen_taken _ _ _ _ _ c.loop-dir-test.true seen _ c.step-place.ensures _ c.top.ensures _ c.in-Some.is c.if-occupied-eq4.false (sym c.throws_in.ensures ∙ c.if-throws_in.false)

pub step-place-requires : goal.step-place-requires
step-place-requires g c = wider c.args.queen c.requires

pub throws_in-requires-clause-within : goal.throws_in-requires-clause-within
throws_in-requires-clause-within g c = subst (IsWithin 9600) (sym c.step-place.ensures) (step_near c.args.queen _ c.requires)

pub returns : goal.returns
returns g c = seen_all (g.B.Board.stacks c.args.board.now) c.args.side c.args.queen c.loop-dir.dir-index c.loop-dir.occupied (omega (arith, c.loop-dir-test.false)) c.loop-dir.invariant
