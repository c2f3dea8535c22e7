use Rattle.std.proofs.Common.{◌≡◌, ◌+◌, ◌≤◌, ◌<◌, ◌∙◌, sym, subst, refl, arith, length, true, false}
use Rattle.arrayvec.specs.ArrayVec.{ArrayVec}
use Rattle.hive_model.specs.declared.places.Place.{Place}
use Rattle.hive_model.specs.Places.{dirs}
use Rattle.pillbug_throws.specs.Throwing.{ComesDown}
use Rattle.pillbug_throws.proofs.ThrowParts.{AreDown, none_down, down_not, down_more, all_down, longer_by_one}
use Rattle.pillbug_throws.proofs.landing.add_places.Goals as goal
use Rattle.pillbug_throws.proofs.landing.add_places.Goals.{then-comes_down, else-comes_down}

pub loop-dir-init : goal.loop-dir-init
loop-dir-init g c = none_down (ComesDown (g.B.Board.stacks c.args.board.now) (g.L.Board.stacks c.args.lifted.now) c.args.over c.args.from) c.args.over c.args.out.now.items c.requires.empty

pub add_place-requires : goal.add_place-requires
add_place-requires g c = record { room = omega (arith, longer_by_one c.step-to.result c.loop-dir.out.items, c.loop-dir.invariant.few, c.loop-dir-test.true) }

pub loop-dir-preserved : goal.loop-dir-preserved
loop-dir-preserved g c =
    let P = ComesDown (g.B.Board.stacks c.args.board.now) (g.L.Board.stacks c.args.lifted.now) c.args.over c.args.from in
    let old = c.loop-dir.out.items in
    let n = c.loop-dir.dir-index in
    let low : n < length dirs = omega (arith, c.loop-dir-test.true) in
    elim c.if-comes_down.branch [
      | then-comes_down w ↦
          subst (λ (out : ArrayVec Place). AreDown P c.args.over (n + 1) out.items) (sym w.out-is)
          (down_more P c.args.over n low old c.loop-dir.invariant _ refl c.step-to.result c.step-to.ensures (c.comes_down.ensures.0 w.if-comes_down.true) w.add_place.new.list.items w.add_place.ensures)
      | else-comes_down w ↦
          subst (λ (out : ArrayVec Place). AreDown P c.args.over (n + 1) out.items) (sym w.out-is)
          (down_not P c.args.over n low old c.loop-dir.invariant _ refl c.step-to.result c.step-to.ensures (λ there. let wrong : false ≡ true = sym w.if-comes_down.false ∙ c.comes_down.ensures.1 there in cc))
    ]

pub returns : goal.returns
returns g c =
    let b = g.B.Board.stacks c.args.board.now in
    let most : 6 ≤ c.loop-dir.dir-index = omega (arith, c.loop-dir-test.false) in
    record {
      in_order = c.loop-dir.invariant.order;
      exact = λ q. (
        c.loop-dir.invariant.sound q,
        all_down b (g.L.Board.stacks c.args.lifted.now) c.args.over c.args.from c.loop-dir.dir-index most c.loop-dir.out.items c.loop-dir.invariant q,
      );
    }
